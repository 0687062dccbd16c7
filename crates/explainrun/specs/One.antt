-- A promise allows one result, and a catalogue and an input have one explanation.
use Rattle.std.specs.Prelude.{ℕ, ◌≡◌, refl, List}
use Rattle.std.proofs.Common.{subst}
use Rattle.bytesearch.specs.One.{never}
use Rattle.nametable.specs.Houses.{House}
use Rattle.nametable.specs.declared.Names.{Names}
use Rattle.filter.specs.declared.Event.{Event}
use Rattle.filter.specs.declared.State.{State}
use Rattle.catalogue.specs.Catalogue.{catalogue, refused_by, NamesWith}
use Rattle.catalogue.proofs.One.{means_one, names_in_one}
use Rattle.catalogue.proofs.Theorems.{names_with_one}
use Rattle.explaining.specs.Paragraph.{Paragraph}
use Rattle.explaining.specs.One.{paragraph_one}
use Rattle.linerun.specs.Promise.{LinesOut}
use Rattle.linerun.specs.One as L
use Rattle.explainrun.specs.Promise.{GoesOn}
use Rattle.explainrun.specs.Explanation.{Explanation, explanation, refused}

pub goes_on_one : {i : Names} {b l o : List ℕ} {s : State} {v : Event} {k m p q : List ℕ} {r t : State} → GoesOn i b l o s v k p r → GoesOn i b l o s v m q t → (k ≡ m) × (p ≡ q) × (r ≡ t)
goes_on_one {i} = L.goes_on_one (paragraph_one (names_in_one i))

pub explanation_one : {house input t u : List ℕ} → Explanation house input t → Explanation house input u → t ≡ u
explanation_one {input = input} (explanation {hs} m x) (explanation {hs = ks} {t = u} n y) =
    let e : catalogue hs ≡ catalogue ks = means_one m n in
    let d : ks ≡ hs = cc in
    L.lines_out_one (paragraph_one (names_with_one m)) x (subst (λ (k : List House). LinesOut (Paragraph (NamesWith k)) input u) d y)
explanation_one (explanation {hs} m x) (refused {f} n) = let e : catalogue hs ≡ refused_by f = means_one m n in let z : ◌≡◌ {A = ℕ} 0 1 = cc in absurd (never z)
explanation_one (refused {f} m) (explanation {hs} n y) = let e : refused_by f ≡ catalogue hs = means_one m n in let z : ◌≡◌ {A = ℕ} 0 1 = cc in absurd (never z)
explanation_one (refused m) (refused n) = refl
