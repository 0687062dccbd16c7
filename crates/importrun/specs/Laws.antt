-- From what the calls below say to the promises.
-- Assumes nothing.
use Rattle.std.specs.Prelude.{ℕ, ◌+◌, ◌-◌, ◌≤◌, ◌<◌, min, ◌≡◌, Bool, true, false, List, [], ◌++◌, length, take, drop}
use Rattle.std.proofs.Common.{sym, ◌∙◌, ap, ap₂, subst, arith, length-take, length-drop, drop_of_length-le, length-take-le}
use Rattle.std.proofs.lemmas.List.{drop-take}
use lib.Seq.{paste}
use Rattle.writer.specs.Promise.{put}
use Rattle.writer.proofs.PutLaws.{put_none}
use Rattle.filter.specs.declared.Phase.TheVariants.{Reading, Midway, Closing}
use Rattle.filter.specs.declared.Event.{Event}
use Rattle.filter.specs.declared.State.{State}
use Rattle.filter.specs.Promise.{block_size, room_of, state_with_value}
use Rattle.filter.specs.Laws.{room_fits}
use Rattle.listrun.specs.Promise.{state_at_value}
use Rattle.nametable.specs.declared.Names.{Names}
use Rattle.catalogue.specs.Promise.{NamesIn}
use Rattle.importing.specs.declared.Progress.{Progress}
use Rattle.importing.specs.declared.Stopped.{Stopped}
use Rattle.importing.specs.declared.Stopped.TheVariants as Stopped'
use Rattle.importing.specs.Promise.{place_of, import_state, Imports}
use Rattle.importrun.specs.declared.ImportRun.{ImportRun}
use Rattle.importrun.specs.Promise.{run_with_value, kept_of, room_left, Keeps, Advances, GoesOn}

-- what is read after them lies in the block
pub reads_fit : (s : State) (w : Bool) → kept_of s + room_left s w ≤ block_size
reads_fit s w = within (min s.held block_size) (room_of s.phase w) (omega arith) (room_fits s.phase w)
  where
    within : (k n : ℕ) → k ≤ block_size → n ≤ block_size → k + (n - k) ≤ block_size
    within k n h i = omega arith

-- ---- bytes moved to the front: t are those that are moved

pub keeps_none : (b : List ℕ) {at end : ℕ} → end < at → Keeps b at end b 0
keeps_none b {at} {end} h =
    let e : drop at (take end b) ≡ [] = drop_of_length-le (take end b) {i = at} (omega (arith, length-take end b)) in
    subst (λ (x : List ℕ). Keeps b at end x 0) (ap (put b 0) e ∙ put_none b 0) (subst (λ (n : ℕ). Keeps b at end (put b 0 (drop at (take end b))) n) (ap length e) Keeps.keeps)

-- the bytes that are moved
abbrev pub part : List ℕ → ℕ → ℕ → List ℕ
part b at end = drop at (take end b)

module _ (b : List ℕ) (at end : ℕ) (h : end ≤ length b) (k : at ≤ end) where
  pub part_long : length (part b at end) ≡ end - at
  part_long = length-drop at (take end b) ∙ ap (λ (n : ℕ). n - at) (length-take-le end b h)

  pub keeping : {x : List ℕ} → x ≡ paste b 0 (drop at b) (end - at) → Keeps b at end x (end - at)
  keeping e =
      let p : take (end - at) (drop at b) ≡ part b at end = sym (drop-take at (end - at) b) ∙ ap (λ (n : ℕ). drop at (take n b)) (omega arith) in
      let q : paste b 0 (drop at b) (end - at) ≡ put b 0 (part b at end) = ap₂ (λ (t : List ℕ) (n : ℕ). take 0 b ++ (t ++ drop (0 + n) b)) p (sym part_long) in
      subst (λ (y : List ℕ). Keeps b at end y (end - at)) (sym (e ∙ q)) (subst (λ (n : ℕ). Keeps b at end (put b 0 (part b at end)) n) part_long Keeps.keeps)

-- ---- a turn

-- what a call came to is told of the front of the block
as_told : {m : Names} {f l x l' x' : List ℕ} {from at u o : ℕ} {ends : Bool} {v w : Stopped} (b : List ℕ) (n : ℕ) → f ≡ take n b → v ≡ w → Imports (NamesIn m) ends o f (import_state from l x 0) (import_state at l' x' u) v → Imports (NamesIn m) ends o (take n b) (import_state from l x 0) (import_state at l' x' u) w
as_told {m} {f} {l} {x} {l'} {x'} {from} {at} {u} {o} {ends} {w = w} b n e d i =
    subst (λ (y : List ℕ). Imports (NamesIn m) ends o y (import_state from l x 0) (import_state at l' x' u) w) e (subst (Imports (NamesIn m) ends o f (import_state from l x 0) (import_state at l' x' u)) d i)

module _ {m : Names} {b l x : List ℕ} {from n : ℕ} {ends : Bool} {o : ℕ} {f l' x' : List ℕ} {p : Progress} (e : f ≡ take n b) (i : Imports (NamesIn m) ends o f (import_state from l x 0) (import_state p.at l' x' p.used) p.stopped) where
  module _ {s : State} {r : ImportRun} where
    pub turn_ended : p.stopped ≡ Stopped'.Ended → s ≡ state_with_value Closing p.used → r ≡ run_with_value s o → Advances m b l x from n ends o b l' x' r
    turn_ended d g h = subst (Advances m b l x from n ends o b l' x') (sym (h ∙ ap (λ (y : State). run_with_value y o) g)) (Advances.ended (as_told b n e d i))

    pub turn_full : p.stopped ≡ Stopped'.Full → s ≡ state_at_value Midway p.at n 0 p.used → r ≡ run_with_value s o → Advances m b l x from n ends o b l' x' r
    turn_full d g h = subst (Advances m b l x from n ends o b l' x') (sym (h ∙ ap (λ (y : State). run_with_value y o) g)) (Advances.full (as_told b n e d i))

    pub turn_read : p.stopped ≡ Stopped'.Spent → ends ≡ true → s ≡ state_with_value Closing p.used → r ≡ run_with_value s o → Advances m b l x from n ends o b l' x' r
    turn_read d t g h = subst (Advances m b l x from n ends o b l' x') (sym (h ∙ ap (λ (y : State). run_with_value y o) g)) (Advances.all_read t (as_told b n e d i))

    pub turn_spent : {b' : List ℕ} {j k q : ℕ} → p.stopped ≡ Stopped'.Spent → ends ≡ false → j ≡ min n block_size → Keeps b p.at j b' k → s ≡ state_at_value Reading 0 0 k p.used → q ≡ place_of o p.at → r ≡ run_with_value s q
        → Advances m b l x from n ends o b' l' x' r
    turn_spent {b'} {j} {k} d t y z g v h =
        subst (Advances m b l x from n ends o b' l' x') (sym (h ∙ ap₂ run_with_value g v)) (Advances.spent t (as_told b n e d i) (subst (λ (a : ℕ). Keeps b p.at a b' k) y z))

pub goes : {m : Names} {b l o b' l' o' : List ℕ} {r r' : ImportRun} {x y z : Event} → x ≡ z → x ≡ y → GoesOn m b l o r y b' l' o' r' → GoesOn m b l o r z b' l' o' r'
goes {m} {b} {l} {o} {b'} {l'} {o'} {r} {r'} e f t = subst (λ (v : Event). GoesOn m b l o r v b' l' o' r') (sym f ∙ e) t
