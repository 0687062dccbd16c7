-- In memory that holds a list a name is found exactly if the list has it, with its number there; cleared memory holds the empty list; and entering a
-- name keeps what is held and adds the name.
use Rattle.std.specs.Prelude.{◌≡◌, ℕ, ◌+◌, ◌-◌, ◌*◌, ◌^◌, ◌<◌, ◌≤◌, Bool, true, false, List, [], ◌∷◌, ◌++◌, length, take, drop, ℤ, pos, ◌==◌, slice_index, slice_index_or, slice_set, refl, Option, Some}
use Rattle.std.proofs.Common.{sym, ◌∙◌, ap, subst, ⊎_elim, arith, not-suc-le-zero, length-set, length-append, length-take-le, get_or-append-add, get_or-take, get_or-set_same, get_or-set_other, eqb-true}
use Rattle.std.proofs.Math.ListN.{get_or-append}
use Rattle.std.proofs.Math.Seq.{get_or-append_seam}
use Rattle.std.proofs.lemmas.Bool.{eqb-false}
use Rattle.whole.specs.Promise.{unbias}
use Rattle.whole.specs.Tests.{lt_or_ge}
use Rattle.writer.specs.Promise.{put}
use Rattle.writer.proofs.PutLaws.{length_put}
use Rattle.nametable.specs.Limits.{most_lines, most_name, slot, heads}
use Rattle.nametable.specs.Hash.{bucket_of_value}
use Rattle.nametable.specs.HashLaws.{bucket_small}
use Rattle.nametable.specs.Promise.{memory, Stands, head_of, next_of, number_of, Walk, ended, here, astray, onward, Finds, too_long, lost, walks, entered, linked}
use Rattle.nametable.specs.declared.Names.{Names}
use Rattle.nametable.specs.One.{stands_one}
use Rattle.nametable.specs.Houses.{House, house, line_at, name_at}
use Rattle.nametable.specs.Holds.{chain_at, Latest, Sized, Holds, Has, has, has_not}

-- ---- finding in memory that holds a list

module _ {m : Names} {hs : List House} (g : Holds m hs) (s : List ℕ) where
  -- the lines from link v on have other names, and the line that it leads to is of the chain of s
  walk_has : {v : ℕ} {a : Option ℤ} → v ≤ length hs → (0 < v → chain_at hs (v - 1) ≡ bucket_of_value s) → ((j : ℕ) → v ≤ j → j < length hs → ¬ (name_at hs j ≡ s)) → Walk m s v a → Has hs s a
  walk_has h c n (ended l) = has_not (λ k i. n k (omega arith) i)
  walk_has {v} h c n (here l w) =
      subst (λ (z : ℤ). Has hs s (Some z)) (sym (g.numbers (v - 1) (omega arith)))
      (has (v - 1) (omega arith) (stands_one (g.stands (v - 1) (omega arith)) w))
  walk_has {v} h c n (astray l o p) = absurd (omega (arith, (g.next (v - 1) (omega arith)).inside))
  walk_has {v} h c n (onward l o p w) =
      let q : Latest hs (chain_at hs (v - 1)) (v - 1) (next_of m.links (v - 1)) = g.next (v - 1) (omega arith) in
      walk_has (omega (arith, q.inside)) (λ i. q.is i ∙ c l) (others q) w
    where
      others : Latest hs (chain_at hs (v - 1)) (v - 1) (next_of m.links (v - 1)) → (j : ℕ) → next_of m.links (v - 1) ≤ j → j < length hs → ¬ (name_at hs j ≡ s)
      others q j i k e = ⊎_elim
          (λ b. q.after j i b (ap bucket_of_value e ∙ sym (c l)))
          (λ b. ⊎_elim
          (λ d. o (subst (λ (x : ℕ). Stands m.slots x s) (at_it b d) (subst (Stands m.slots j) e (g.stands j k))))
          (λ d. n j d k e)
          (lt_or_ge j v))
          (lt_or_ge j (v - 1))
        where
          at_it : v - 1 ≤ j → j < v → j ≡ v - 1
          at_it b d = omega arith

  pub finds_has : {a : Option ℤ} → Finds m s a → Has hs s a
  finds_has (too_long h) = has_not (λ k i e. absurd (never k e (g.short k i)))
    where
      never : (k : ℕ) → name_at hs k ≡ s → length (name_at hs k) ≤ most_name → ⊥
      never k e l = omega (arith, ap length e)
  finds_has (lost h l) = absurd (omega (arith, (g.first (bucket_of_value s) (bucket_small s)).inside, g.few))
  finds_has (walks h l w) =
      let q : Latest hs (bucket_of_value s) (length hs) (head_of m.links (bucket_of_value s)) = g.first (bucket_of_value s) (bucket_small s) in
      walk_has q.inside (λ i. q.is i) (λ j i k e. q.after j i k (ap bucket_of_value e)) w

-- ---- cleared memory holds the empty list

pub cleared_holds : (m : Names) → Sized m → ((b : ℕ) → b < heads → head_of m.links b ≡ 0) → Holds m []
cleared_holds m g z = record {
  sized = g;
  few = omega arith;
  short = λ k h. absurd (not-suc-le-zero h);
  stands = λ k h. absurd (not-suc-le-zero h);
  numbers = λ k h. absurd (not-suc-le-zero h);
  first = λ b h. record { inside = omega (arith, z b h); is = λ i. absurd (omega (arith, z b h)); after = λ j i k. absurd (not-suc-le-zero k) };
  next = λ k h. absurd (not-suc-le-zero h);
}

-- ---- a text put into a buffer, byte by byte

module _ (b : List ℕ) (at : ℕ) (t : List ℕ) (room : at + length t ≤ length b) where
  front_long : length (take at b) ≡ at
  front_long = length-take-le at b (omega arith)

  put_before : (p : ℕ) → p < at → slice_index (put b at t) p ≡ slice_index b p
  put_before p h = get_or-append (take at b) (t ++ drop (at + length t) b) 0 p (subst (λ (n : ℕ). p < n) (sym front_long) h) ∙ get_or-take at b p 0 h

  put_in : (i : ℕ) → i < length t → slice_index (put b at t) (at + i) ≡ slice_index t i
  put_in i h =
      ap (λ (n : ℕ). slice_index (put b at t) (n + i)) (sym front_long)
      ∙ get_or-append-add (take at b) (t ++ drop (at + length t) b) i 0
      ∙ get_or-append t (drop (at + length t) b) 0 i h

-- ---- one line more

module _ (hs : List House) (h : House) where
  more : length (hs ++ (h ∷ [])) ≡ length hs + 1
  more = length-append hs (h ∷ [])

  old_line : (k : ℕ) → k < length hs → line_at (hs ++ (h ∷ [])) k ≡ line_at hs k
  old_line k l = get_or-append hs (h ∷ []) (house [] (pos 0)) k l

  new_line : line_at (hs ++ (h ∷ [])) (length hs) ≡ h
  new_line = get_or-append_seam hs h [] (house [] (pos 0))

  old_chain : (k : ℕ) → k < length hs → chain_at (hs ++ (h ∷ [])) k ≡ chain_at hs k
  old_chain k l = ap (λ (x : House). bucket_of_value x.name) (old_line k l)

  new_chain : chain_at (hs ++ (h ∷ [])) (length hs) ≡ bucket_of_value h.name
  new_chain = ap (λ (x : House). bucket_of_value x.name) new_line

  -- a link among the old lines
  old_latest : {b n v : ℕ} → n ≤ length hs → Latest hs b n v → Latest (hs ++ (h ∷ [])) b n v
  old_latest {b} {n} {v} l q = record {
    inside = q.inside;
    is = λ i. old_chain (v - 1) (omega (arith, q.inside)) ∙ q.is i;
    after = λ j i k e. q.after j i k (sym (old_chain j (omega arith)) ∙ e);
  }

  -- a chain that the new line is not of
  other_latest : {b v : ℕ} → ¬ (bucket_of_value h.name ≡ b) → Latest hs b (length hs) v → Latest (hs ++ (h ∷ [])) b (length (hs ++ (h ∷ []))) v
  other_latest {b} {v} o q = record {
    inside = omega (arith, q.inside, more);
    is = λ i. old_chain (v - 1) (omega (arith, q.inside)) ∙ q.is i;
    after = λ j i k e. ⊎_elim (λ l. q.after j i l (sym (old_chain j l) ∙ e)) (λ l. o (sym (at_end j l k) ∙ e)) (lt_or_ge j (length hs));
  }
    where
      at_end : (j : ℕ) → length hs ≤ j → j < length (hs ++ (h ∷ [])) → chain_at (hs ++ (h ∷ [])) j ≡ bucket_of_value h.name
      at_end j l k = let e : j ≡ length hs = omega (arith, more) in ap (chain_at (hs ++ (h ∷ []))) e ∙ new_chain

  -- the chain that it is of
  new_latest : Latest (hs ++ (h ∷ [])) (bucket_of_value h.name) (length (hs ++ (h ∷ []))) (length hs + 1)
  new_latest = record {
    inside = omega (arith, more);
    is = λ i. let e : length hs + 1 - 1 ≡ length hs = omega arith in ap (chain_at (hs ++ (h ∷ []))) e ∙ new_chain;
    after = λ j i k. absurd (never j i k);
  }
    where
      never : (j : ℕ) → length hs + 1 ≤ j → j < length (hs ++ (h ∷ [])) → ⊥
      never j i k = omega (arith, more)

-- ---- what is read after line n was entered

module _ (links : List ℕ) (n b d : ℕ) (e : length links ≡ heads + 2 * most_lines) (l : n < most_lines) (r : b < heads) where
  other_link : (j : ℕ) → ¬ (j ≡ b) → ¬ (j ≡ heads + 2 * n + 1) → ¬ (j ≡ heads + 2 * n) → slice_index (linked links n b d) j ≡ slice_index links j
  other_link j o p q =
      get_or-set_other (slice_set (slice_set links (heads + 2 * n) (head_of links b)) (heads + 2 * n + 1) d) b j (n + 1) 0 o
      ∙ get_or-set_other (slice_set links (heads + 2 * n) (head_of links b)) (heads + 2 * n + 1) j d 0 p
      ∙ get_or-set_other links (heads + 2 * n) j (head_of links b) 0 q

  new_head : head_of (linked links n b d) b ≡ n + 1
  new_head = get_or-set_same (slice_set (slice_set links (heads + 2 * n) (head_of links b)) (heads + 2 * n + 1) d) b (n + 1) 0 (simp length-set (omega arith))

  new_next : next_of (linked links n b d) n ≡ head_of links b
  new_next =
      get_or-set_other (slice_set (slice_set links (heads + 2 * n) (head_of links b)) (heads + 2 * n + 1) d) b (heads + 2 * n) (n + 1) 0 (λ x. omega arith)
      ∙ get_or-set_other (slice_set links (heads + 2 * n) (head_of links b)) (heads + 2 * n + 1) (heads + 2 * n) d 0 (λ x. omega arith)
      ∙ get_or-set_same links (heads + 2 * n) (head_of links b) 0 (omega arith)

  new_number : slice_index_or (linked links n b d) (heads + 2 * n + 1) 0 ≡ d
  new_number =
      get_or-set_other (slice_set (slice_set links (heads + 2 * n) (head_of links b)) (heads + 2 * n + 1) d) b (heads + 2 * n + 1) (n + 1) 0 (λ x. omega arith)
      ∙ get_or-set_same (slice_set links (heads + 2 * n) (head_of links b)) (heads + 2 * n + 1) d 0 (simp length-set (omega arith))

module _ (names : List ℕ) (n : ℕ) (s : List ℕ) (e : length names ≡ most_lines * slot) (l : n < most_lines) (r : length s ≤ most_name) where
  old_byte : (p : ℕ) → p < n * slot → slice_index (entered names n s) p ≡ slice_index names p
  old_byte p h = get_or-set_other (put names (n * slot) s) (n * slot + most_name) p (length s) 0 (λ x. omega arith) ∙ put_before names (n * slot) s (omega arith) p h

  old_stands : {t : List ℕ} (k : ℕ) → k < n → length t ≤ most_name → Stands names k t → Stands (entered names n s) k t
  old_stands k h o w = record {
    long = old_byte (k * slot + most_name) (omega arith) ∙ w.long;
    bytes = λ i j. w.bytes i j ∙ sym (old_byte (k * slot + i) (omega arith));
  }

  new_stands : Stands (entered names n s) n s
  new_stands = record {
    long = get_or-set_same (put names (n * slot) s) (n * slot + most_name) (length s) 0 (subst (λ (k : ℕ). n * slot + most_name < k) (sym (length_put names (n * slot) s (omega arith))) (omega arith));
    bytes = λ i j. sym (get_or-set_other (put names (n * slot) s) (n * slot + most_name) (n * slot + i) (length s) 0 (λ x. omega arith) ∙ put_in names (n * slot) s (omega arith) i j);
  }

-- ---- entering keeps what is held, and adds the name

module _ {m : Names} {hs : List House} (g : Holds m hs) (s : List ℕ) (z : ℤ) (d : ℕ) (l : length hs < most_lines) (r : length s ≤ most_name) (u : unbias (2 ^ 31) d ≡ z) where
  -- what holds of each old line, and of the new one, holds of each line
  each : (P : ℕ → House → Type 0) → ((k : ℕ) → k < length hs → P k (line_at hs k)) → P (length hs) (house s z) → (k : ℕ) → k < length (hs ++ (house s z ∷ [])) → P k (line_at (hs ++ (house s z ∷ [])) k)
  each P o w k h = ⊎_elim
      (λ i. subst (P k) (sym (old_line hs (house s z) k i)) (o k i))
      (λ i. let e : length hs ≡ k = omega (arith, more hs (house s z)) in subst (λ (j : ℕ). P j (line_at (hs ++ (house s z ∷ [])) j)) e (subst (P (length hs)) (sym (new_line hs (house s z))) w))
      (lt_or_ge k (length hs))

  first' : (b : ℕ) → b < heads → (t : Bool) → (b == bucket_of_value s) ≡ t → Latest (hs ++ (house s z ∷ [])) b (length (hs ++ (house s z ∷ []))) (head_of (linked m.links (length hs) (bucket_of_value s) d) b)
  first' b h true e =
      let i : bucket_of_value s ≡ b = sym (eqb-true b (bucket_of_value s) e) in
      subst (λ (x : ℕ). Latest (hs ++ (house s z ∷ [])) x (length (hs ++ (house s z ∷ []))) (head_of (linked m.links (length hs) (bucket_of_value s) d) x)) i
      (subst (Latest (hs ++ (house s z ∷ [])) (bucket_of_value s) (length (hs ++ (house s z ∷ [])))) (sym (new_head m.links (length hs) (bucket_of_value s) d g.sized.links l (bucket_small s))) (new_latest hs (house s z)))
  first' b h false e =
      let o : ¬ (b ≡ bucket_of_value s) = eqb-false b (bucket_of_value s) e in
      subst (Latest (hs ++ (house s z ∷ [])) b (length (hs ++ (house s z ∷ []))))
      (sym (other_link m.links (length hs) (bucket_of_value s) d g.sized.links l (bucket_small s) b o (λ x. omega arith) (λ x. omega arith)))
      (other_latest hs (house s z) (λ x. o (sym x)) (g.first b h))

  pub enter_holds : Holds (memory (entered m.slots (length hs) s) (linked m.links (length hs) (bucket_of_value s) d)) (hs ++ (house s z ∷ []))
  enter_holds = record {
    sized = record { names = length-set (put m.slots (length hs * slot) s) (length hs * slot + most_name) (length s) ∙ length_put m.slots (length hs * slot) s (omega (arith, g.sized.names)) ∙ g.sized.names; links = simp length-set g.sized.links };
    few = omega (arith, more hs (house s z));
    short = each (λ (k : ℕ) (x : House). length x.name ≤ most_name) g.short r;
    stands = each (λ (k : ℕ) (x : House). Stands (entered m.slots (length hs) s) k x.name)
        (λ k h. old_stands m.slots (length hs) s g.sized.names l r k h (g.short k h) (g.stands k h))
        (new_stands m.slots (length hs) s g.sized.names l r);
    numbers = each (λ (k : ℕ) (x : House). number_of (linked m.links (length hs) (bucket_of_value s) d) k ≡ x.number)
        (λ k h. ap (unbias (2 ^ 31)) (other_link m.links (length hs) (bucket_of_value s) d g.sized.links l (bucket_small s) (heads + 2 * k + 1) (λ x. omega (arith, bucket_small s)) (λ x. omega arith) (λ x. omega arith)) ∙ g.numbers k h)
        (ap (unbias (2 ^ 31)) (new_number m.links (length hs) (bucket_of_value s) d g.sized.links l (bucket_small s)) ∙ u);
    first = λ b h. first' b h (b == bucket_of_value s) refl;
    next = each (λ (k : ℕ) (x : House). Latest (hs ++ (house s z ∷ [])) (bucket_of_value x.name) k (next_of (linked m.links (length hs) (bucket_of_value s) d) k))
        (λ k h. subst (Latest (hs ++ (house s z ∷ [])) (chain_at hs k) k)
        (sym (other_link m.links (length hs) (bucket_of_value s) d g.sized.links l (bucket_small s) (heads + 2 * k) (λ x. omega (arith, bucket_small s)) (λ x. omega arith) (λ x. omega arith)))
        (old_latest hs (house s z) (omega arith) (g.next k h)))
        (subst (Latest (hs ++ (house s z ∷ [])) (bucket_of_value s) (length hs))
        (sym (new_next m.links (length hs) (bucket_of_value s) d g.sized.links l (bucket_small s)))
        (old_latest hs (house s z) (omega arith) (g.first (bucket_of_value s) (bucket_small s))));
  }
