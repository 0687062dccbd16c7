-- Two results that a promise of a turn allows are equal.
-- Assumes nothing.
use Rattle.std.specs.Prelude.{ℕ, min, ◌≡◌, refl, Bool, List}
use Rattle.std.proofs.Common.{sym, ◌∙◌, ap, ap₂, subst, true≢false, arith}
use Rattle.filter.specs.declared.Event.{Event}
use Rattle.filter.specs.declared.Phase.TheVariants.{Reading, Midway, Closing}
use Rattle.filter.specs.declared.State.{State}
use Rattle.filter.specs.Promise.{block_size, state_with_value}
use Rattle.filter.specs.One.{puts_message_one}
use Rattle.listrun.specs.Promise.{state_at_value}
use Rattle.listrun.specs.One as List'
use Rattle.nametable.specs.declared.Names.{Names}
use Rattle.catalogue.specs.Promise.{NamesIn}
use Rattle.catalogue.proofs.One.{names_in_one}
use Rattle.cataloguerun.specs.declared.CatalogueRun.{CatalogueRun}
use Rattle.importing.specs.declared.Stopped.{Stopped}
use Rattle.importing.specs.Promise.{ImportState, import_state, place_of, Imports}
use Rattle.importing.specs.One.{imports_one}
use Rattle.importrun.specs.declared.ImportRun.{ImportRun}
use Rattle.importrun.specs.Promise.{run_with_value, Starts, Keeps, Advances, GoesOn}

pub starts_one : {c : CatalogueRun} {x y z : List ℕ} {r q : ImportRun} → Starts c x y r → Starts c x z q → (y ≡ z) × (r ≡ q)
starts_one (Starts.starts a) (Starts.starts b) = let (e, d) = List'.starts_one a b in (e, ap (λ (s : State). run_with_value s 0) d)

pub keeps_one : {b x y : List ℕ} {at end n k : ℕ} → Keeps b at end x n → Keeps b at end y k → (x ≡ y) × (n ≡ k)
keeps_one Keeps.keeps Keeps.keeps = (refl, refl)

-- what two calls on the same bytes came to
record Same (l m x y : List ℕ) (a c u v : ℕ) (w z : Stopped) : Type 0 where
  line : l ≡ m
  out : x ≡ y
  at : a ≡ c
  used : u ≡ v
  stopped : w ≡ z

module _ (i : Names) where
  same : {b : List ℕ} {s : ImportState} {l m x y : List ℕ} {a c u v o : ℕ} {ends : Bool} {w z : Stopped} → Imports (NamesIn i) ends o b s (import_state a l x u) w → Imports (NamesIn i) ends o b s (import_state c m y v) z → Same l m x y a c u v w z
  same p q =
      let (e, d) = imports_one (names_in_one i) p q in
      record {
        line = ap (λ (t : ImportState). t.line) e;
        out = ap (λ (t : ImportState). t.out) e;
        at = ap (λ (t : ImportState). t.at) e;
        used = ap (λ (t : ImportState). t.used) e;
        stopped = d;
      }

other_stop : {A : Type 0} {w z : Stopped} → w ≡ z → (w ≡ z → ◌≡◌ {A = ℕ} 0 1) → A
other_stop e f = absurd (omega (arith, f e))

pub record Turned (a b l m x y : List ℕ) (r q : ImportRun) : Type 0 where
  pub block : a ≡ b
  pub line : l ≡ m
  pub out : x ≡ y
  pub run : r ≡ q

advances_one : {i : Names} {b l x : List ℕ} {from n : ℕ} {ends : Bool} {o : ℕ} {b₁ b₂ l₁ l₂ x₁ x₂ : List ℕ} {r q : ImportRun} → Advances i b l x from n ends o b₁ l₁ x₁ r → Advances i b l x from n ends o b₂ l₂ x₂ q → Turned b₁ b₂ l₁ l₂ x₁ x₂ r q
advances_one {i} {o = o} (Advances.ended v) (Advances.ended w) = let e = same i v w in record { block = refl; line = e.line; out = e.out; run = ap (λ (u : ℕ). run_with_value (state_with_value Closing u) o) e.used }
advances_one {i} (Advances.ended v) (Advances.full w) = other_stop (same i v w).stopped (λ e. cc)
advances_one {i} (Advances.ended v) (Advances.spent t w k) = other_stop (same i v w).stopped (λ e. cc)
advances_one {i} (Advances.ended v) (Advances.all_read t w) = other_stop (same i v w).stopped (λ e. cc)
advances_one {i} (Advances.full v) (Advances.ended w) = other_stop (same i v w).stopped (λ e. cc)
advances_one {i} {n = n} {o = o} (Advances.full v) (Advances.full w) = let e = same i v w in record { block = refl; line = e.line; out = e.out; run = ap₂ (λ (a u : ℕ). run_with_value (state_at_value Midway a n 0 u) o) e.at e.used }
advances_one {i} (Advances.full v) (Advances.spent t w k) = other_stop (same i v w).stopped (λ e. cc)
advances_one {i} (Advances.full v) (Advances.all_read t w) = other_stop (same i v w).stopped (λ e. cc)
advances_one {i} (Advances.spent t v k) (Advances.ended w) = other_stop (same i v w).stopped (λ e. cc)
advances_one {i} (Advances.spent t v k) (Advances.full w) = other_stop (same i v w).stopped (λ e. cc)
advances_one {i} {b} {n = n} {o = o} (Advances.spent {at = a} {u} {k} t v p) (Advances.spent {b' = b₂} {at = c} {u = w} {k = j} t' v' p') =
    let e = same i v v' in
    let (d, f) = keeps_one p (subst (λ (z : ℕ). Keeps b z (min n block_size) b₂ j) (sym e.at) p') in
    record { block = d; line = e.line; out = e.out; run = ap₂ run_with_value (ap₂ (λ (y z : ℕ). state_at_value Reading 0 0 y z) f e.used) (ap (place_of o) e.at) }
advances_one (Advances.spent t v k) (Advances.all_read t' w) = absurd (true≢false (sym t' ∙ t))
advances_one {i} (Advances.all_read t v) (Advances.ended w) = other_stop (same i v w).stopped (λ e. cc)
advances_one {i} (Advances.all_read t v) (Advances.full w) = other_stop (same i v w).stopped (λ e. cc)
advances_one (Advances.all_read t v) (Advances.spent t' w k) = absurd (true≢false (sym t ∙ t'))
advances_one {i} {o = o} (Advances.all_read t v) (Advances.all_read t' w) = let e = same i v w in record { block = refl; line = e.line; out = e.out; run = ap (λ (u : ℕ). run_with_value (state_with_value Closing u) o) e.used }

pub goes_on_one : {i : Names} {b l x : List ℕ} {r : ImportRun} {v : Event} {b₁ b₂ l₁ l₂ x₁ x₂ : List ℕ} {p q : ImportRun} → GoesOn i b l x r v b₁ l₁ x₁ p → GoesOn i b l x r v b₂ l₂ x₂ q → Turned b₁ b₂ l₁ l₂ x₁ x₂ p q
goes_on_one (GoesOn.works_on a) (GoesOn.works_on c) = advances_one a c
goes_on_one (GoesOn.last_record a) (GoesOn.last_record c) = advances_one a c
goes_on_one {r = r} (GoesOn.cannot_read a) (GoesOn.cannot_read c) = let (e, f) = puts_message_one a c in record { block = refl; line = refl; out = e; run = ap (λ (s : State). run_with_value s r.offset) f }
goes_on_one {r = r} (GoesOn.cannot_write a) (GoesOn.cannot_write c) = let (e, f) = puts_message_one a c in record { block = refl; line = refl; out = e; run = ap (λ (s : State). run_with_value s r.offset) f }
goes_on_one GoesOn.ends GoesOn.ends = record { block = refl; line = refl; out = refl; run = refl }
