-- Two results that a promise of the import allows are equal, where a name has one answer; and a catalogue and an input have one import.
-- Assumes nothing.
use Rattle.std.specs.Prelude.{ℕ, ◌+◌, ◌≡◌, refl, Bool, List, ◌++◌, length, pos, Err}
use Rattle.std.proofs.Common.{sym, ap, ap₂, subst, ◌∙◌, arith}
use Rattle.refusals.specs.Promise.{refusal}
use Rattle.refusals.specs.declared.Refusal.{Refusal}
use Rattle.calendar.specs.RowLaws.{One}
use Rattle.nametable.specs.Houses.{House}
use Rattle.catalogue.specs.Catalogue.{catalogue, refused_by, NamesWith}
use Rattle.catalogue.proofs.One.{means_one}
use Rattle.catalogue.proofs.Theorems.{names_with_one}
use Rattle.writer.specs.Promise.{put}
use Rattle.entry.specs.Promise.{Naming}
use Rattle.linetext.specs.Line.{Ended}
use Rattle.linetext.specs.Promise.{LineOut}
use Rattle.linetext.specs.One.{ended_one}
use Rattle.columns.specs.Columns.{header}
use Rattle.listing.specs.One.{listed_one, held_line_one}
use Rattle.commatext.specs.declared.Scan.{Scan}
use Rattle.commatext.specs.One.{scans_one, reads_one}
use Rattle.commatext.specs.Contents.{Outcome}
use Rattle.importing.specs.declared.Taken.{Taken}
use Rattle.importing.specs.declared.Stopped.{Stopped}
use Rattle.importing.specs.Import.{Imported, AllImported, Import, imported, refused}
use Rattle.importing.specs.Promise.{place_of, ImportState, import_state, TakesRecord, Imports}

-- ---- the text of a refusal

told_one : {f g : Refusal} {t u : List ℕ} → f ≡ g → LineOut (Err f) t → LineOut (Err g) u → t ≡ u
told_one {u = u} e x y = ended_one x.is (subst (λ (h : Refusal). Ended (Err h) u) (sym e) y.is)

-- two scans of the same bytes that answer differently
differ : {A : Type 0} {r q : Scan} → r ≡ q → (r ≡ q → ◌≡◌ {A = ℕ} 0 1) → A
differ e f = absurd (omega (arith, f e))

module _ {N : Naming} (names_one : (s : List ℕ) → One (N s)) where
  -- ---- a record

  record Same (l m x y : List ℕ) (r q : Taken) : Type 0 where
    line : l ≡ m
    out : x ≡ y
    taken : r ≡ q

  takes_one : {ends : Bool} {o : ℕ} {b : List ℕ} {s : ImportState} {l m x y : List ℕ} {r q : Taken} → TakesRecord N ends o b s l x r → TakesRecord N ends o b s m y q → Same l m x y r q
  takes_one {s = s} (TakesRecord.entry {k = k} {n} p g) (TakesRecord.entry {k = k'} {n = n'} p' g') =
      let (e, d) = scans_one p p' in
      let i : k ≡ k' = cc in
      let j : n ≡ n' = cc in
      let t = held_line_one names_one e i g g' in
      record { line = e; out = ap (put s.out s.used) t; taken = ap₂ Taken.Written (ap (λ (z : ℕ). s.at + z) j) (ap (λ (z : List ℕ). s.used + length z) t) }
  takes_one (TakesRecord.entry p g) (TakesRecord.miscounted p' g') = differ (scans_one p p').1 (λ e. cc)
  takes_one (TakesRecord.entry p g) (TakesRecord.stops p' g') = differ (scans_one p p').1 (λ e. cc)
  takes_one (TakesRecord.entry p g) (TakesRecord.cut p') = differ (scans_one p p').1 (λ e. cc)
  takes_one (TakesRecord.miscounted p g) (TakesRecord.entry p' g') = differ (scans_one p p').1 (λ e. cc)
  takes_one {s = s} (TakesRecord.miscounted {n = n} p g) (TakesRecord.miscounted {n = n'} p' g') =
      let (e, d) = scans_one p p' in
      let j : n ≡ n' = cc in
      let t = told_one refl g g' in
      record { line = e; out = ap (put s.out s.used) t; taken = ap₂ Taken.Written (ap (λ (z : ℕ). s.at + z) j) (ap (λ (z : List ℕ). s.used + length z) t) }
  takes_one (TakesRecord.miscounted p g) (TakesRecord.stops p' g') = differ (scans_one p p').1 (λ e. cc)
  takes_one (TakesRecord.miscounted p g) (TakesRecord.cut p') = differ (scans_one p p').1 (λ e. cc)
  takes_one (TakesRecord.stops p g) (TakesRecord.entry p' g') = differ (scans_one p p').1 (λ e. cc)
  takes_one (TakesRecord.stops p g) (TakesRecord.miscounted p' g') = differ (scans_one p p').1 (λ e. cc)
  takes_one {o = o} {s = s} (TakesRecord.stops {n = n} {p = i} p g) (TakesRecord.stops {n = n'} {p = i'} p' g') =
      let (e, d) = scans_one p p' in
      let j : n ≡ n' = cc in
      let k : i ≡ i' = cc in
      let t = told_one (ap₂ (λ (y z : ℕ). refusal y (place_of (place_of o s.at) z) (pos 0)) j k) g g' in
      record { line = e; out = ap (put s.out s.used) t; taken = ap (λ (z : List ℕ). Taken.Ended (s.used + length z)) t }
  takes_one (TakesRecord.stops p g) (TakesRecord.cut p') = differ (scans_one p p').1 (λ e. cc)
  takes_one (TakesRecord.cut p) (TakesRecord.entry p' g') = differ (scans_one p p').1 (λ e. cc)
  takes_one (TakesRecord.cut p) (TakesRecord.miscounted p' g') = differ (scans_one p p').1 (λ e. cc)
  takes_one (TakesRecord.cut p) (TakesRecord.stops p' g') = differ (scans_one p p').1 (λ e. cc)
  takes_one (TakesRecord.cut p) (TakesRecord.cut p') = record { line = (scans_one p p').0; out = refl; taken = refl }

  -- ---- record after record

  at_state : {i j : ℕ} {l m x y : List ℕ} {u v : ℕ} → i ≡ j → l ≡ m → x ≡ y → u ≡ v → import_state i l x u ≡ import_state j m y v
  at_state {i} {j} {l} {m} {x} {y} {u} {v} a b c d = ap (λ (z : ℕ). import_state z l x u) a ∙ ap (λ (z : List ℕ). import_state j z x u) b ∙ ap (λ (z : List ℕ). import_state j m z u) c ∙ ap (λ (z : ℕ). import_state j m y z) d

  another : {A : Type 0} {r q : Taken} → r ≡ q → (r ≡ q → ◌≡◌ {A = ℕ} 0 1) → A
  another e f = absurd (omega (arith, f e))

  pub imports_one : {ends : Bool} {o : ℕ} {b : List ℕ} {s e f : ImportState} {w v : Stopped} → Imports N ends o b s e w → Imports N ends o b s f v → (e ≡ f) × (w ≡ v)
  imports_one (Imports.spent h) (Imports.spent k) = (refl, refl)
  imports_one (Imports.spent h) (Imports.full k r) = absurd (omega arith)
  imports_one (Imports.spent h) (Imports.cut k r t) = absurd (omega arith)
  imports_one (Imports.spent h) (Imports.ended k r t) = absurd (omega arith)
  imports_one (Imports.spent h) (Imports.goes_on k r t q) = absurd (omega arith)
  imports_one (Imports.full h i) (Imports.spent k) = absurd (omega arith)
  imports_one (Imports.full h i) (Imports.full k r) = (refl, refl)
  imports_one (Imports.full h i) (Imports.cut k r t) = absurd (omega arith)
  imports_one (Imports.full h i) (Imports.ended k r t) = absurd (omega arith)
  imports_one (Imports.full h i) (Imports.goes_on k r t q) = absurd (omega arith)
  imports_one (Imports.cut h i p) (Imports.spent k) = absurd (omega arith)
  imports_one (Imports.cut h i p) (Imports.full k r) = absurd (omega arith)
  imports_one (Imports.cut h i p) (Imports.cut k r t) = let d = takes_one p t in (at_state refl d.line d.out refl, refl)
  imports_one (Imports.cut h i p) (Imports.ended k r t) = another (takes_one p t).taken (λ e. cc)
  imports_one (Imports.cut h i p) (Imports.goes_on k r t q) = another (takes_one p t).taken (λ e. cc)
  imports_one (Imports.ended h i p) (Imports.spent k) = absurd (omega arith)
  imports_one (Imports.ended h i p) (Imports.full k r) = absurd (omega arith)
  imports_one (Imports.ended h i p) (Imports.cut k r t) = another (takes_one p t).taken (λ e. cc)
  imports_one (Imports.ended {u = u} h i p) (Imports.ended {u = v} k r t) = let d = takes_one p t in let e = d.taken in let z : u ≡ v = cc in (at_state refl d.line d.out z, refl)
  imports_one (Imports.ended h i p) (Imports.goes_on k r t q) = another (takes_one p t).taken (λ e. cc)
  imports_one (Imports.goes_on h i p g) (Imports.spent k) = absurd (omega arith)
  imports_one (Imports.goes_on h i p g) (Imports.full k r) = absurd (omega arith)
  imports_one (Imports.goes_on h i p g) (Imports.cut k r t) = another (takes_one p t).taken (λ e. cc)
  imports_one (Imports.goes_on h i p g) (Imports.ended k r t) = another (takes_one p t).taken (λ e. cc)
  imports_one {ends} {o} {b} {f = f} {v = v} (Imports.goes_on {i = a} {u} h i p g) (Imports.goes_on {i = c} {u = z} k r t q) =
      let d = takes_one p t in
      let e = d.taken in
      let x : a ≡ c = cc in
      let y : u ≡ z = cc in
      imports_one g (subst (λ (j : ImportState). Imports N ends o b j f v) (sym (at_state x d.line d.out y)) q)

  -- ---- what is written for outcomes

  imported_one : {r : Outcome} {t u : List ℕ} → Imported N r t → Imported N r u → t ≡ u
  imported_one (Imported.listed x) (Imported.listed y) = listed_one names_one x y
  imported_one (Imported.told x) (Imported.told y) = ended_one x y

  pub all_imported_one : {rs : List Outcome} {t u : List ℕ} → AllImported N rs t → AllImported N rs u → t ≡ u
  all_imported_one AllImported.none AllImported.none = refl
  all_imported_one (AllImported.next p r) (AllImported.next q s) = ap₂ (λ (t u : List ℕ). t ++ u) (imported_one p q) (all_imported_one r s)

-- ---- a catalogue and an input have one import

pub import_one : {house input t u : List ℕ} → Import house input t → Import house input u → t ≡ u
import_one (imported {hs} {rs} m p q) (imported {hs = ks} {t = u} m' p' q') =
    let e : catalogue hs ≡ catalogue ks = means_one m m' in
    let d : hs ≡ ks = cc in
    ap (λ (x : List ℕ). header ++ x) (all_imported_one (names_with_one m) q (subst (λ (x : List House). AllImported (NamesWith x) rs u) (sym d) (subst (λ (x : List Outcome). AllImported (NamesWith ks) x u) (sym (reads_one p p')) q')))
import_one (imported {hs} m p q) (refused {f} m' x) = let e : catalogue hs ≡ refused_by f = means_one m m' in let z : ◌≡◌ {A = ℕ} 0 1 = cc in absurd (omega arith)
import_one (refused {f} m x) (imported {hs} m' p q) = let e : refused_by f ≡ catalogue hs = means_one m m' in let z : ◌≡◌ {A = ℕ} 0 1 = cc in absurd (omega arith)
import_one (refused {f} m x) (refused {f = g} {t = u} m' y) =
    let e : refused_by f ≡ refused_by g = means_one m m' in
    let d : f ≡ g = cc in
    ap (λ (s : List ℕ). header ++ s) (ended_one x (subst (λ (h : Refusal). Ended (Err h) u) (sym d) y))
