-- What the lines of a file come to, one after another. That it is one thing is shown in proofs/One.antt.
use Rattle.std.specs.Prelude.{ℕ, List, [], ◌∷◌, ◌++◌}
use Rattle.refusals.specs.declared.Refusal.{Refusal}
use Rattle.nametable.specs.Houses.{House}
use Rattle.catalogue.specs.Catalogue as C
use Rattle.catalogue.specs.Catalogue.{holds, LineMeans, Meaning, catalogue, refused_by}

pub data Run : List House → List (List ℕ) → Meaning → Type 0 where
  ends : {hs : List House} → Run hs [] (catalogue hs)
  next : {hs : List House} {l : List ℕ} {ls : List (List ℕ)} {h : House} {m : Meaning} → LineMeans hs l (holds h) → Run (hs ++ (h ∷ [])) ls m → Run hs (l ∷ ls) m
  stops : {hs : List House} {l : List ℕ} {ls : List (List ℕ)} {f : Refusal} → LineMeans hs l (C.refuses f) → Run hs (l ∷ ls) (refused_by f)
