-- What the proofs of `unquote` need: how a quoted field is taken byte by byte, and how two fields become a line.
use Rattle.std.specs.Prelude.{ℕ, suc, ◌+◌, ◌-◌, ◌≤◌, ◌<◌, ◌≡◌, refl, Bool, true, false, List, [], ◌∷◌, ◌++◌, length, take, drop, get_or, set, eqb, Some, None}
use Rattle.std.proofs.Common.{sym, ◌∙◌, ap, ap₂, subst, append_assoc, append-nil, zero-add, arith, length-append, length-drop, length-take, length-set, take-append-drop, drop-cons, drop-drop, take_at, drop_at, take-take, length-take-le, eq-eqb, ne_eqb}
use Rattle.whole.specs.Text.{tab}
use Rattle.digits.specs.Promise.{pick}
use Rattle.writer.specs.Promise.{put, Copies}
use Rattle.writer.specs.Laws.{PutText}
use Rattle.writer.proofs.PutLaws.{put_none, put_then, put_byte, put_on, length_put}
use Rattle.commatext.specs.declared.Found.{Found}
use Rattle.commatext.specs.declared.Scan.{Scan}
use Rattle.commatext.specs.Grammar.{comma, quote, QuotedByte, NonEscaped, Quoted, Field, Record, longest_record}
use Rattle.commatext.specs.Contents.{Faulty}
use Rattle.commatext.specs.Promise.{line_of, Scans}
use Rattle.commatext.specs.Private.{bytes_of, PairOf, Finds, UsualField, FindsUsual, PutsField, PutsQuoted, PutsLine}
use Rattle.commatext.specs.Laws.{no_quote, quote_not_quoted, as_long}

-- ---- a quoted field: i bytes of it are taken, and n is the offset after what they hold

-- the field holds f: `done` of it is put
pub record Left (l b₀ : List ℕ) (at : ℕ) (b : List ℕ) (i n : ℕ) (f : List ℕ) : Type 0 where
  pub done : List ℕ
  pub rest : List ℕ
  pub bytes : List ℕ
  pub holds : f ≡ done ++ rest
  pub quoted : Quoted bytes rest
  pub left : drop i l ≡ bytes ++ (quote ∷ [])
  pub is : b ≡ put b₀ at done
  pub offset : n ≡ at + length done

pub record Unquoting (l b₀ : List ℕ) (at : ℕ) (b : List ℕ) (i n : ℕ) : Type 0 where
  pub puts : (m f : List ℕ) → l ≡ quote ∷ (m ++ (quote ∷ [])) → Quoted m f → Left l b₀ at b i n f
  pub long : length b ≡ length b₀
  pub most : n + 1 ≤ at + i
  pub within : i ≤ length l + 1

pub unquoting_start : (l b : List ℕ) (at : ℕ) → Unquoting l b at b 1 at
unquoting_start l b at =
    record {
      puts = λ m f e q. record { done = []; rest = f; bytes = m; holds = refl; quoted = q; left = ap (drop 1) e; is = sym (put_none b at); offset = omega arith };
      long = refl;
      most = omega arith;
      within = omega arith;
    }

pub one_byte : (b : ℕ) → (b ≡ quote → ⊥) → bytes_of b ≡ 1
one_byte b h = rw (ne_eqb b quote h)

pub two_bytes : (b : ℕ) → b ≡ quote → bytes_of b ≡ 2
two_bytes b h = rw (eq-eqb b quote h)

-- one byte or two
pub at_least_one : (x : ℕ) → 1 ≤ bytes_of x
at_least_one x = go (eqb x quote)
  where
    go : (t : Bool) → 1 ≤ pick t 2 1
    go true = omega arith
    go false = omega arith

pub at_most_two : (x : ℕ) → bytes_of x ≤ 2
at_most_two x = go (eqb x quote)
  where
    go : (t : Bool) → pick t 2 1 ≤ 2
    go true = omega arith
    go false = omega arith

module _ {l b₀ : List ℕ} {at : ℕ} {b : List ℕ} {i n : ℕ} (fits : at + length l ≤ length b₀) (u : Unquoting l b₀ at b i n) (h : i + 1 < length l) where
  -- the byte at i
  stands_there : {x : ℕ} {s : List ℕ} → drop i l ≡ x ∷ s → (get_or l i 0 ≡ x) × (drop (i + 1) l ≡ s)
  stands_there {x} {s} e = (ap (λ (y : List ℕ). get_or y 0 0) (sym (drop-cons l i 0 (omega arith)) ∙ e), sym (drop-drop 1 i l) ∙ ap (drop 1) e)

  put_more : {f : List ℕ} (v : Left l b₀ at b i n f) (x : ℕ) → set b n x ≡ put b₀ at (v.done ++ (x ∷ []))
  put_more v x =
      put_byte b n x (omega (arith, u.most, u.long)) ∙ ap₂ (λ (y : List ℕ) (k : ℕ). put y k (x ∷ [])) v.is v.offset
      ∙ put_then b₀ at v.done (x ∷ []) (omega (arith, u.most, v.offset))

  left_on : {f : List ℕ} (v : Left l b₀ at b i n f) {m g : List ℕ} → v.bytes ≡ m → v.rest ≡ g → Quoted m g → Left l b₀ at (set b n (get_or l i 0)) (i + bytes_of (get_or l i 0)) (n + 1) f
  left_on v e d Quoted.none = absurd (omega (arith, ap length (v.left ∙ ap (λ (x : List ℕ). x ++ (quote ∷ [])) e), length-drop i l))
  left_on {f} v e d (Quoted.byte {b = x} {l = m} {f = g} q r) =
      let (y, z) = stands_there (v.left ∙ ap (λ (p : List ℕ). p ++ (quote ∷ [])) e) in
      let k : bytes_of (get_or l i 0) ≡ 1 = one_byte _ (λ w. quote_not_quoted w (subst QuotedByte (sym y) q)) in
      record {
        done = v.done ++ (x ∷ []);
        rest = g;
        bytes = m;
        holds = v.holds ∙ ap (λ (p : List ℕ). v.done ++ p) d ∙ sym (append_assoc v.done (x ∷ []) g);
        quoted = r;
        left = ap (λ (j : ℕ). drop (i + j) l) k ∙ z;
        is = ap (set b n) y ∙ put_more v x;
        offset = omega (arith, v.offset, length-append v.done (x ∷ []));
      }
  left_on {f} v e d (Quoted.twice {l = m} {f = g} r) =
      let (y, z) = stands_there (v.left ∙ ap (λ (p : List ℕ). p ++ (quote ∷ [])) e) in
      let k : bytes_of (get_or l i 0) ≡ 2 = two_bytes _ y in
      record {
        done = v.done ++ (quote ∷ []);
        rest = g;
        bytes = m;
        holds = v.holds ∙ ap (λ (p : List ℕ). v.done ++ p) d ∙ sym (append_assoc v.done (quote ∷ []) g);
        quoted = r;
        left = ap (λ (j : ℕ). drop (i + j) l) k ∙ ap (λ (j : ℕ). drop j l) (one_on i) ∙ sym (drop-drop 1 (i + 1) l) ∙ ap (drop 1) z;
        is = ap (set b n) y ∙ put_more v quote;
        offset = omega (arith, v.offset, length-append v.done (quote ∷ []));
      }
    where
      one_on : (i : ℕ) → i + 2 ≡ i + 1 + 1
      one_on i = omega arith

  pub unquoting_on : Unquoting l b₀ at (set b n (get_or l i 0)) (i + bytes_of (get_or l i 0)) (n + 1)
  unquoting_on =
      record {
        puts = λ m f e q. let v = u.puts m f e q in left_on v refl refl v.quoted;
        long = length-set b n (get_or l i 0) ∙ u.long;
        most = omega (arith, u.most, at_least_one (get_or l i 0));
        within = omega (arith, at_most_two (get_or l i 0));
      }

pub unquoting_done : {l b₀ : List ℕ} {at : ℕ} {b : List ℕ} {i n : ℕ} → Unquoting l b₀ at b i n → length l ≤ i + 1 → PutsQuoted l b₀ at b n
unquoting_done {l} {b₀} {at} {b} {i} {n} u h =
    record {
      puts = λ m f e q. let v = u.puts m f e q in go v refl refl v.quoted;
      long = u.long;
      most = omega (arith, u.most, u.within);
    }
  where
    go : {f : List ℕ} (v : Left l b₀ at b i n f) {m g : List ℕ} → v.bytes ≡ m → v.rest ≡ g → Quoted m g → PutText b₀ at f b n
    go v e d Quoted.none = let k = v.holds ∙ ap (λ (x : List ℕ). v.done ++ x) d ∙ append-nil v.done in record { is = v.is ∙ ap (put b₀ at) (sym k); offset = v.offset ∙ ap (λ (x : List ℕ). at + length x) (sym k) }
    go v e d (Quoted.byte {l = m} q r) = absurd (omega (arith, ap length (v.left ∙ ap (λ (x : List ℕ). x ++ (quote ∷ [])) e), length-drop i l, length-append m (quote ∷ [])))
    go v e d (Quoted.twice {l = m} r) = absurd (omega (arith, ap length (v.left ∙ ap (λ (x : List ℕ). x ++ (quote ∷ [])) e), length-drop i l, length-append m (quote ∷ [])))

-- ---- a field, quoted or not

pub puts_none : {l b : List ℕ} {at : ℕ} → length l ≡ 0 → PutsField Field l b at b at
puts_none {l} {b} {at} e = record { puts = λ f q. go refl q; long = refl; most = omega arith }
  where
    go : {m f : List ℕ} → l ≡ m → Field m f → PutText b at f b at
    go d (Field.escaped q) = absurd (omega (arith, ap length d))
    go d (Field.non_escaped NonEscaped.none) = record { is = sym (put_none b at); offset = omega arith }
    go d (Field.non_escaped (NonEscaped.more t q)) = absurd (omega (arith, ap length d))

-- ---- what was found, as a line

pub pair_room : {F : List ℕ → List ℕ → Type 0} {ends : Bool} {s : List ℕ} {c e n : ℕ} → PairOf F ends s c e n → (c < e) × (e ≤ length s) × (e ≤ longest_record)
pair_room (PairOf.pair {l} {m} p q d w x y) = (omega (arith, as_long w, ap length x, length-append l (comma ∷ m)), w.inside, w.short)

scans_pair : {F : List ℕ → List ℕ → Type 0} {ends : Bool} {s b b' : List ℕ} {c e n r : ℕ} → ((l f : List ℕ) → F l f → Field l f) → PairOf F ends s c e n → PutsLine F s c e b b' r → Scans ends s b b' (Scan.Entry r n)
scans_pair {ends = ends} {s} {b} {b'} {n = n} {r} is (PairOf.pair {l} {m} {f} {g} p q d w x y) puts =
    let t = puts l m f g p q d x in
    let k : r ≡ length (line_of f g) = t.offset ∙ zero-add (length (line_of f g)) in
    subst (λ (z : List ℕ). Scans ends s b z (Scan.Entry r n)) (sym t.is) (subst (λ (i : ℕ). Scans ends s b (put b 0 (line_of f g)) (Scan.Entry i n)) (sym k)
    (Scans.entry (subst (λ (z : List ℕ). Record z (f ∷ g ∷ [])) (sym x) (Record.more (is l f p) (Record.last (is m g q)))) (omega (arith, as_long w, w.short)) y))

pub the_pair : {ends : Bool} {s : List ℕ} {c e n : ℕ} → Finds ends s (Found.Pair c e n) → PairOf Field ends s c e n
the_pair (Finds.pair p) = p

pub the_usual : {ends : Bool} {s : List ℕ} {c e n : ℕ} → FindsUsual ends s (Some (c, e, n)) → PairOf UsualField ends s c e n
the_usual (FindsUsual.pair p) = p

pub scans_any : {ends : Bool} {s b b' : List ℕ} {c e n r : ℕ} → Finds ends s (Found.Pair c e n) → PutsLine Field s c e b b' r → Scans ends s b b' (Scan.Entry r n)
scans_any p q = scans_pair (λ l f x. x) (the_pair p) q

quoted_text : {l : List ℕ} → NonEscaped l → Quoted l l
quoted_text NonEscaped.none = Quoted.none
quoted_text (NonEscaped.more t r) = Quoted.byte (QuotedByte.text t) (quoted_text r)

usual_field : (l f : List ℕ) → UsualField l f → Field l f
usual_field l f (UsualField.plain q) = Field.non_escaped q
usual_field l f (UsualField.quoted q) = Field.escaped (quoted_text q)

pub scans_usual : {ends : Bool} {s b b' : List ℕ} {c e n r : ℕ} → FindsUsual ends s (Some (c, e, n)) → PutsLine UsualField s c e b b' r → Scans ends s b b' (Scan.Entry r n)
scans_usual p q = scans_pair usual_field (the_usual p) q

module _ {ends : Bool} {s b : List ℕ} where
  pub scans_other : {n : ℕ} → Finds ends s (Found.Other n) → Scans ends s b b (Scan.Miscounted n)
  scans_other (Finds.other p h w y) = Scans.miscounted p h (omega (arith, as_long w, w.short)) y

  pub scans_stops : {n p : ℕ} → Finds ends s (Found.Stops n p) → Scans ends s b b (Scan.Stops n p)
  scans_stops {n} {p} (Finds.stops {e} {w} i x y) = Scans.stops (sym (take-append-drop e s)) x (subst (λ (k : ℕ). Faulty ends w k (drop e s) n p) (sym (as_long i)) y)

  pub scans_undecided : Finds ends s Found.Undecided → Scans ends s b b Scan.Undecided
  scans_undecided (Finds.undecided t o) = Scans.undecided t o

-- ---- two fields and a tab

pub line_long : {F : List ℕ → List ℕ → Type 0} {l m b b₁ b₂ : List ℕ} {n i r : ℕ} → PutsField F l b 0 b₁ n → PutsField F m (set b₁ n tab) i b₂ r → length b₂ ≡ length b
line_long {b₁ = b₁} {n = n} p q = q.long ∙ length-set b₁ n tab ∙ p.long

module _ (s : List ℕ) (c e : ℕ) (h : c < e) (i : e ≤ length s) where
  parts : {l m : List ℕ} → c ≡ length l → take e s ≡ l ++ (comma ∷ m) → (l ≡ take c s) × (m ≡ take (e - (c + 1)) (drop (c + 1) s))
  parts {l} {m} d f = (front, back)
    where
      front : l ≡ take c s
      front = sym (take_at l (comma ∷ m) c (sym d)) ∙ ap (take c) (sym f) ∙ take-take c e s (omega arith)

      long : e ≡ length l + suc (length m)
      long = sym (length-take-le e s i) ∙ ap length f ∙ length-append l (comma ∷ m)

      whole : s ≡ (l ++ (comma ∷ [])) ++ (m ++ drop e s)
      whole = sym (take-append-drop e s) ∙ ap (λ (x : List ℕ). x ++ drop e s) f ∙ append_assoc l (comma ∷ m) (drop e s) ∙ sym (append_assoc l (comma ∷ []) (m ++ drop e s))

      back : m ≡ take (e - (c + 1)) (drop (c + 1) s)
      back = sym (take_at m (drop e s) (e - (c + 1)) (omega (arith, long)))
          ∙ ap (take (e - (c + 1))) (sym (drop_at (l ++ (comma ∷ [])) (m ++ drop e s) (c + 1) (omega (arith, length-append l (comma ∷ [])))) ∙ ap (drop (c + 1)) (sym whole))

  pub puts_line : {F : List ℕ → List ℕ → Type 0} {b b₁ b₂ : List ℕ} {n r : ℕ} → e ≤ length b → PutsField F (take c s) b 0 b₁ n → PutsField F (take (e - (c + 1)) (drop (c + 1) s)) (set b₁ n tab) (n + 1) b₂ r → PutsLine F s c e b b₂ r
  puts_line {F} {b} {b₁} {b₂} {n} {r} k p q l m f g x y d z =
      let (u, v) = parts d z in
      let a = p.puts f (subst (λ (o : List ℕ). F o f) u x) in
      let o = q.puts g (subst (λ (w : List ℕ). F w g) v y) in
      let j : n < length b₁ = omega (arith, p.most, p.long, length-take c s) in
      let t : PutText b₁ n (tab ∷ []) (set b₁ n tab) (n + 1) = record { is = put_byte b₁ n tab j; offset = refl } in
      let w : length g ≤ e - (c + 1) = omega (arith, o.offset, q.most, length-take (e - (c + 1)) (drop (c + 1) s)) in
      let z₁ = put_on a (tab ∷ []) (omega (arith, a.offset, p.most, length-take c s)) t in
      let z₂ = put_on z₁ g (omega (arith, a.offset, p.most, length-take c s, length-append f (tab ∷ []), w)) o in
      subst (λ (i : List ℕ). PutText b 0 i b₂ r) (append_assoc f (tab ∷ []) g) z₂

-- ---- a usual field

-- without its first byte and its last
pub usual_quoted : {l b : List ℕ} {at : ℕ} {b' : List ℕ} {r : ℕ} → at + length l ≤ length b → 2 ≤ length l → get_or l 0 0 ≡ quote → PutText b at (take (length l - 1 - 1) (drop 1 l)) b' r → PutsField UsualField l b at b' r
usual_quoted {l} {b} {at} {b'} {r} h k e p =
    record {
      puts = λ f q. go refl q;
      long = ap length p.is ∙ length_put b at (take (length l - 1 - 1) (drop 1 l)) (omega (arith, length-take (length l - 1 - 1) (drop 1 l)));
      most = omega (arith, p.offset, length-take (length l - 1 - 1) (drop 1 l));
    }
  where
    go : {m f : List ℕ} → l ≡ m → UsualField m f → PutText b at f b' r
    go d (UsualField.plain NonEscaped.none) = absurd (omega (arith, ap length d))
    go d (UsualField.plain (NonEscaped.more t q)) = absurd (no_quote (omega (arith, e, ap (λ (x : List ℕ). get_or x 0 0) d)) (omega (arith, e, ap (λ (x : List ℕ). get_or x 0 0) d)) t)
    go d (UsualField.quoted {l = m} q) =
        subst (λ (x : List ℕ). PutText b at x b' r) (ap (λ (x : List ℕ). take (length x - 1 - 1) (drop 1 x)) d ∙ take_at m (quote ∷ []) (length (quote ∷ (m ++ (quote ∷ []))) - 1 - 1) (omega (arith, length-append m (quote ∷ [])))) p
