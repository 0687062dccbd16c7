-- Why the functions meet their promises: a slot compared, links followed, a name put into its slot.
use Rattle.std.specs.Prelude.{◌≡◌, ℕ, ◌+◌, ◌-◌, ◌*◌, ◌^◌, ◌<◌, ◌≤◌, Bool, true, false, List, length, set, ℤ, slice_index, slice_set, refl, Option, Some, None}
use Rattle.std.proofs.Common.{sym, ◌∙◌, ap, subst, arith}
use Rattle.whole.specs.Promise.{unbias}
use Rattle.whole.specs.Whether.{Whether}
use Rattle.writer.specs.Promise.{put, Copies, copied, no_room}
use Rattle.nametable.specs.Limits.{most_lines, most_name, slot}
use Rattle.nametable.specs.Hash.{bucket_of_value}
use Rattle.nametable.specs.Promise.{memory, Alike, Stands, head_of, next_of, number_of, Walk, ended, here, astray, onward, Finds, walks, lost, entered, linked, Enters, enters}
use Rattle.nametable.specs.declared.Names.{Names}

-- ---- from link to link: what is found from here on is found from the beginning

pub record Walking (m : Names) (s : List ℕ) (from at : ℕ) : Type 0 where
  pub few : at ≤ most_lines
  pub leads : (a : Option ℤ) → Walk m s at a → Walk m s from a

module _ {m : Names} {s : List ℕ} {from at : ℕ} (g : Walking m s from at) where
  pub walking_ended : at ≤ 0 → Walk m s from None
  walking_ended h = g.leads _ (ended h)

  module _ (h : 0 < at) where
    pub walking_here : {z : ℤ} → Stands m.slots (at - 1) s → z ≡ number_of m.links (at - 1) → Walk m s from (Some z)
    walking_here w e = subst (λ (x : ℤ). Walk m s from (Some x)) (sym e) (g.leads _ (here h w))

    module _ {next : ℕ} (n : ¬ Stands m.slots (at - 1) s) (e : next ≡ next_of m.links (at - 1)) where
      pub walking_astray : at ≤ next → Walk m s from None
      walking_astray l = g.leads _ (astray h n (subst (λ (x : ℕ). at ≤ x) e l))

      pub walking_on : next < at → Walking m s from next
      walking_on l = record {
        few = omega (arith, g.few);
        leads = λ a w. g.leads a (onward h n (subst (λ (x : ℕ). x < at) e l) (subst (λ (x : ℕ). Walk m s x a) e w));
      }

-- ---- finding

module _ (m : Names) (s : List ℕ) {b from : ℕ} (h : length s ≤ most_name) (e : b ≡ bucket_of_value s) (f : from ≡ head_of m.links b) where
  head_is : from ≡ head_of m.links (bucket_of_value s)
  head_is = f ∙ ap (head_of m.links) e

  pub finds_lost : most_lines < from → Finds m s None
  finds_lost l = lost h (subst (λ (x : ℕ). most_lines < x) head_is l)

  pub finds_walk : {a : Option ℤ} → from ≤ most_lines → Walk m s from a → Finds m s a
  finds_walk {a} l w = walks h (subst (λ (x : ℕ). x ≤ most_lines) head_is l) (subst (λ (x : ℕ). Walk m s x a) head_is w)

-- ---- a name put into its slot

pub enters_so : {names links : List ℕ} {k : ℕ} {s : List ℕ} {z : ℤ} {n l : List ℕ} {b : ℕ} (d : ℕ) → k < most_lines → length s ≤ most_name → n ≡ entered names k s → l ≡ linked links k b d → b ≡ bucket_of_value s → unbias (2 ^ 31) d ≡ z → Enters (memory names links) k s z (memory n l) true
enters_so {names} {links} {k} {s} {z} {n} {l} {b} d h g e f i u =
    subst (λ (x : List ℕ). Enters (memory names links) k s z (memory x l) true) (sym e)
    (subst (λ (x : List ℕ). Enters (memory names links) k s z (memory (entered names k s) x) true) (sym (f ∙ ap (λ (x : ℕ). linked links k x d) i)) (enters d h g u))
