-- What the proofs need: which bytes go on in a field, how the beginning of a record grows, and how it ends.
use Rattle.std.specs.Prelude.{ℕ, zero, suc, ◌+◌, ◌≤◌, ◌<◌, min, ◌≡◌, refl, Bool, true, false, List, [], ◌∷◌, ◌++◌, length, take, drop, get_or, Some}
use Rattle.std.proofs.Common.{sym, ◌∙◌, ap, ap₂, subst, true≢false, append_assoc, append-nil, ⊎_elim, add-zero, arith, length-append, take-append-drop, drop_of_length-le, drop-cons, take-add, take_at, take_all, length-take-le}
use Rattle.whole.specs.Text.{newline}
use Rattle.whole.specs.Tests.{lt_or_ge}
use Rattle.commatext.specs.declared.Found.{Found}
use Rattle.commatext.specs.declared.Next.{Next}
use Rattle.commatext.specs.Grammar.{comma, quote, return, TextData, QuotedByte, NonEscaped, Quoted, Field, Record, LineEnd, longest_record}
use Rattle.commatext.specs.Contents.{Where, Fields, Begun, Outside, NoLineEnd, Faulty}
use Rattle.commatext.specs.Promise.{Closes, Open}
use Rattle.commatext.specs.Private.{Tells, Stands, AllStand, Along, Stopped, Run, FieldEnd, NextIs, OtherAt, Parted, first_comma_value, Within, OutsideAt, InsideAt, PairOf, Finds, UsualField, EndsUsual, QuoteAt, FindsUsual}

-- ---- a byte

pub tells_yes : {P : Type 0} {t : Bool} → Tells P t → t ≡ true → P
tells_yes (Tells.yes p) e = p
tells_yes (Tells.no n) e = absurd (true≢false (sym e))

pub tells_no : {P : Type 0} {t : Bool} → Tells P t → t ≡ false → P → ⊥
tells_no (Tells.yes p) e = absurd (true≢false e)
tells_no (Tells.no n) e = n

pub above_text : {b : ℕ} → 126 < b → TextData b → ⊥
above_text h (TextData.from_20 i j) = omega arith
above_text h (TextData.from_23 i j) = omega arith
above_text h (TextData.from_2_d i j) = omega arith

pub below_text : {b : ℕ} → b < 32 → TextData b → ⊥
below_text h (TextData.from_20 i j) = omega arith
below_text h (TextData.from_23 i j) = omega arith
below_text h (TextData.from_2_d i j) = omega arith

pub no_quote : {b : ℕ} → 33 < b → b < 35 → TextData b → ⊥
no_quote h k (TextData.from_20 i j) = omega arith
no_quote h k (TextData.from_23 i j) = omega arith
no_quote h k (TextData.from_2_d i j) = omega arith

pub no_comma : {b : ℕ} → 43 < b → b < 45 → TextData b → ⊥
no_comma h k (TextData.from_20 i j) = omega arith
no_comma h k (TextData.from_23 i j) = omega arith
no_comma h k (TextData.from_2_d i j) = omega arith

pub stands_quoted : (b : ℕ) (q : Bool) → q ≡ true → QuotedByte b → Stands q b
stands_quoted b true e t = t
stands_quoted b false e t = absurd (true≢false (sym e))

pub stands_not : (b : ℕ) (q : Bool) → q ≡ true → (QuotedByte b → ⊥) → Stands q b → ⊥
stands_not b true e f = f
stands_not b false e f = absurd (true≢false (sym e))

pub stands_text : (b : ℕ) (q : Bool) → TextData b → Stands q b
stands_text b true t = QuotedByte.text t
stands_text b false t = t

pub not_quoted : {b : ℕ} → (TextData b → ⊥) → (b ≡ comma → ⊥) → (b ≡ return → ⊥) → (b ≡ newline → ⊥) → QuotedByte b → ⊥
not_quoted f g h i (QuotedByte.text t) = f t
not_quoted f g h i (QuotedByte.a_comma e) = g e
not_quoted f g h i (QuotedByte.a_return e) = h e
not_quoted f g h i (QuotedByte.a_feed e) = i e

-- what the bytes with a meaning are not
pub quote_no_text : {b : ℕ} → b ≡ quote → TextData b → ⊥
quote_no_text e = no_quote (omega arith) (omega arith)

pub comma_no_text : {b : ℕ} → b ≡ comma → TextData b → ⊥
comma_no_text e = no_comma (omega arith) (omega arith)

pub quote_not_quoted : {b : ℕ} → b ≡ quote → QuotedByte b → ⊥
quote_not_quoted e = not_quoted (quote_no_text e) (λ d. omega arith) (λ d. omega arith) (λ d. omega arith)

-- ---- a run of bytes

all_snoc : {q : Bool} {l : List ℕ} (b : ℕ) → AllStand q l → Stands q b → AllStand q (l ++ (b ∷ []))
all_snoc b AllStand.none t = AllStand.more t AllStand.none
all_snoc b (AllStand.more u r) t = AllStand.more u (all_snoc b r t)

pub along_start : {q : Bool} (s : List ℕ) {from : ℕ} → from ≤ length s → Along q s from from
along_start s h = record { bytes = []; is = refl; all = AllStand.none; offset = omega arith; within = h; short = λ k. k }

pub along_on : {q : Bool} {s : List ℕ} {from i : ℕ} → Along q s from i → i < min (length s) longest_record → Stands q (get_or s i 0) → Along q s from (i + 1)
along_on {q} {s} {from} {i} a l t =
    let h : i < length s = omega arith in
    record {
      bytes = a.bytes ++ (get_or s i 0 ∷ []);
      is = a.is ∙ ap (λ (x : List ℕ). a.bytes ++ x) (drop-cons s i 0 h ∙ ap (λ (n : ℕ). get_or s i 0 ∷ drop n s) one_on) ∙ sym (append_assoc a.bytes (get_or s i 0 ∷ []) (drop (i + 1) s));
      all = all_snoc (get_or s i 0) a.all t;
      offset = omega (arith, a.offset, length-append a.bytes (get_or s i 0 ∷ []));
      within = omega arith;
      short = λ m. omega arith;
    }
  where
    one_on : suc i ≡ i + 1
    one_on = omega arith

pub stopped_byte : {q : Bool} (s : List ℕ) {i : ℕ} → i < length s → (Stands q (get_or s i 0) → ⊥) → Stopped q i (drop i s)
stopped_byte {q} s {i} h f = subst (Stopped q i) (sym (drop-cons s i 0 h)) (Stopped.byte f)

pub stopped_end : {q : Bool} (s : List ℕ) {i : ℕ} → min (length s) longest_record ≤ i → Stopped q i (drop i s)
stopped_end {q} s {i} h = ⊎_elim (λ k. subst (Stopped q i) (sym (drop_of_length-le s {i = i} (omega arith))) Stopped.no_more) (λ k. Stopped.full (omega arith)) (lt_or_ge (length s) longest_record)

pub field_closed : {s : List ℕ} {at : ℕ} {q : Bool} → q ≡ true → FieldEnd s at q at
field_closed {s} {at} e = subst (λ (q : Bool). FieldEnd s at q at) (sym e) FieldEnd.closed

pub field_text : {s : List ℕ} {at r : ℕ} {q : Bool} → q ≡ false → Run false s at r → FieldEnd s at q r
field_text {s} {at} {r} e x = subst (λ (q : Bool). FieldEnd s at q r) (sym e) (FieldEnd.text x)

-- ---- what comes next

pub at_the_end : (s : List ℕ) (at : ℕ) → at ≡ length s → drop at s ≡ []
at_the_end s at e = drop_of_length-le s {i = at} (omega arith)

pub here_is : (s : List ℕ) (at : ℕ) {b : ℕ} → at < length s → get_or s at 0 ≡ b → drop at s ≡ b ∷ drop (at + 1) s
here_is s at h e = drop-cons s at 0 h ∙ ap₂ (λ (b n : ℕ). b ∷ drop n s) e one_on
  where
    one_on : suc at ≡ at + 1
    one_on = omega arith

-- after a CR
other_return : {ends : Bool} {at : ℕ} {r : List ℕ} {n : Next} → OtherAt at n → NoLineEnd ends (return ∷ r) → NextIs ends at (return ∷ r) n
other_return (OtherAt.long k) x = NextIs.too_long k x
other_return (OtherAt.short k) x = NextIs.other k x (λ e. omega arith) (λ e. omega arith)

module _ (s : List ℕ) (at : ℕ) (h : at < length s) (e : get_or s at 0 ≡ return) where
  alone : at + 1 ≡ length s → drop at s ≡ return ∷ []
  alone k = here_is s at h e ∙ ap (λ (x : List ℕ). return ∷ x) (at_the_end s (at + 1) k)

  two : {b : ℕ} → at + 1 < length s → get_or s (at + 1) 0 ≡ b → drop at s ≡ return ∷ b ∷ drop (suc (at + 1)) s
  two {b} k d = here_is s at h e ∙ ap (λ (x : List ℕ). return ∷ x) (drop-cons s (at + 1) 0 k ∙ ap (λ (x : ℕ). x ∷ drop (suc (at + 1)) s) d)

module _ {ends : Bool} (s : List ℕ) (at : ℕ) where
  next_as : {n : Next} {r : List ℕ} → drop at s ≡ r → NextIs ends at r n → NextIs ends at (drop at s) n
  next_as {n} e x = subst (λ (y : List ℕ). NextIs ends at y n) (sym e) x

  pub next_text_ends : at ≡ length s → ends ≡ true → NextIs ends at (drop at s) (Next.Ends at)
  next_text_ends e t = next_as (at_the_end s at e) (NextIs.text_ends t)

  pub next_bytes_end : at ≡ length s → ends ≡ false → NextIs ends at (drop at s) Next.Undecided
  next_bytes_end e t = next_as (at_the_end s at e) (NextIs.bytes_end t)

  module _ (h : at < length s) where
    pub next_feed : get_or s at 0 ≡ newline → NextIs ends at (drop at s) (Next.Ends (at + 1))
    next_feed e = next_as (here_is s at h e) (NextIs.line_end _ LineEnd.feed refl)

    pub next_comma : at < longest_record → get_or s at 0 ≡ comma → NextIs ends at (drop at s) Next.Comma
    next_comma k e = next_as (here_is s at h e) (NextIs.a_comma k)

    pub next_quote : at < longest_record → get_or s at 0 ≡ quote → NextIs ends at (drop at s) Next.Quote
    next_quote k e = next_as (here_is s at h e) (NextIs.a_quote k)

    module _ (f : get_or s at 0 ≡ newline → ⊥) (g : get_or s at 0 ≡ return → ⊥) where
      pub next_long : longest_record ≤ at → NextIs ends at (drop at s) Next.TooLong
      next_long k = next_as (here_is s at h refl) (NextIs.too_long k (NoLineEnd.other f g))

      pub next_other : at < longest_record → (get_or s at 0 ≡ comma → ⊥) → (get_or s at 0 ≡ quote → ⊥) → NextIs ends at (drop at s) Next.Other
      next_other k i j = next_as (here_is s at h refl) (NextIs.other k (NoLineEnd.other f g) i j)

    module _ (e : get_or s at 0 ≡ return) where
      pub return_text_ends : {n : Next} → at + 1 ≡ length s → ends ≡ true → OtherAt at n → NextIs ends at (drop at s) n
      return_text_ends k t o = next_as (alone s at h e k) (other_return o (NoLineEnd.last_return t))

      pub return_bytes_end : at + 1 ≡ length s → ends ≡ false → NextIs ends at (drop at s) Next.Undecided
      return_bytes_end k t = next_as (alone s at h e k) (NextIs.return_ends t)

      pub return_feed : at + 1 < length s → get_or s (at + 1) 0 ≡ newline → NextIs ends at (drop at s) (Next.Ends (at + 2))
      return_feed k d = next_as (two s at h e k d) (NextIs.line_end _ LineEnd.return_feed refl)

      pub return_other : {n : Next} → at + 1 < length s → (get_or s (at + 1) 0 ≡ newline → ⊥) → OtherAt at n → NextIs ends at (drop at s) n
      return_other k f o = next_as (two s at h e k refl) (other_return o (NoLineEnd.bare_return f))

-- ---- how fields grow

plain_of : {l : List ℕ} → AllStand false l → NonEscaped l
plain_of AllStand.none = NonEscaped.none
plain_of (AllStand.more t r) = NonEscaped.more t (plain_of r)

quoted_of : {l : List ℕ} → AllStand true l → Quoted l l
quoted_of AllStand.none = Quoted.none
quoted_of (AllStand.more t r) = Quoted.byte t (quoted_of r)

pub quoted_append : {l f m g : List ℕ} → Quoted l f → Quoted m g → Quoted (l ++ m) (f ++ g)
quoted_append Quoted.none q = q
quoted_append (Quoted.byte t r) q = Quoted.byte t (quoted_append r q)
quoted_append (Quoted.twice r) q = Quoted.twice (quoted_append r q)

pub fields_snoc : {l m f : List ℕ} {fs : List (List ℕ)} → Fields l fs → Field m f → Fields (l ++ (m ++ (comma ∷ []))) (fs ++ (f ∷ []))
fields_snoc Fields.none q = Fields.more q Fields.none
fields_snoc {m = m} {f} (Fields.more {l} {f = g} {m = n} {fs} p r) q = subst (λ (x : List ℕ). Fields x (g ∷ (fs ++ (f ∷ [])))) (sym (append_assoc l (comma ∷ n) (m ++ (comma ∷ [])))) (Fields.more p (fields_snoc r q))

pub record_of : {l m f : List ℕ} {fs : List (List ℕ)} → Fields l fs → Field m f → Record (l ++ m) (fs ++ (f ∷ []))
record_of Fields.none q = Record.last q
record_of {m = m} {f} (Fields.more {l} {f = g} {m = n} {fs} p r) q = subst (λ (x : List ℕ). Record x (g ∷ (fs ++ (f ∷ [])))) (sym (append_assoc l (comma ∷ n) m)) (Record.more p (record_of r q))

parted_fields : {l : List ℕ} {k c : ℕ} → Parted l k c → (fs : List (List ℕ)) × Fields l fs × (k ≡ length fs)
parted_fields Parted.none = ([], Fields.none, refl)
parted_fields (Parted.some {f = f} {fs = fs} p r) = (f ∷ fs, Fields.more p r, refl)

parted_snoc : {l m f : List ℕ} {k c : ℕ} → Parted l k c → Field m f → Parted (l ++ (m ++ (comma ∷ []))) (k + 1) (first_comma_value k c (length (l ++ m)))
parted_snoc Parted.none q = Parted.some q Fields.none
parted_snoc {m = m} {f} (Parted.some {l} {f = g} {m = n} {fs} p r) q =
    subst (λ (x : List ℕ). Parted x (suc (length fs) + 1) (length l)) (sym (append_assoc l (comma ∷ n) (m ++ (comma ∷ []))))
    (subst (λ (i : ℕ). Parted (l ++ (comma ∷ (n ++ (m ++ (comma ∷ []))))) i (length l)) long (Parted.some p (fields_snoc r q)))
  where
    long : suc (length (fs ++ (f ∷ []))) ≡ suc (length fs) + 1
    long = omega (arith, length-append fs (f ∷ []))

pub before_end : {a b : ℕ} → a ≤ b → (a ≡ b → ⊥) → a < b
before_end {a} {b} h f = ⊎_elim (λ k. k) (λ k. absurd (f (omega arith))) (lt_or_ge a b)

-- ---- a byte more of the record

module _ (s : List ℕ) (at : ℕ) where
  pub one_more : {b : ℕ} {r : List ℕ} → drop at s ≡ b ∷ r → take (at + 1) s ≡ take at s ++ (b ∷ [])
  one_more {b} e = take-add at 1 s ∙ ap (λ (x : List ℕ). take at s ++ take 1 x) e

  pub all_of_it : {r : List ℕ} → drop at s ≡ r → s ≡ take at s ++ r
  all_of_it e = sym (take-append-drop at s) ∙ ap (λ (x : List ℕ). take at s ++ x) e

pub as_long : {s : List ℕ} {at : ℕ} → Within s at → length (take at s) ≡ at
as_long {s} {at} w = length-take-le at s w.inside

within_more : {s : List ℕ} {at : ℕ} {b : ℕ} {r : List ℕ} → Within s at → drop at s ≡ b ∷ r → at < longest_record → Within s (at + 1)
within_more {s} {at} {b} {r} w e h = record { inside = omega (arith, w.inside, as_long w, split); short = omega arith }
  where
    split : length s ≡ length (take at s) + suc (length r)
    split = ap length (all_of_it s at e) ∙ length-append (take at s) (b ∷ r)

run_taken : {q : Bool} {s : List ℕ} {at end : ℕ} (a : Along q s at end) → take end s ≡ take at s ++ a.bytes
run_taken {s = s} {at} {end} a =
    ap (λ (i : ℕ). take i s) a.offset ∙ take-add at (length a.bytes) s
    ∙ ap (λ (x : List ℕ). take at s ++ x) (ap (take (length a.bytes)) a.is ∙ take_at a.bytes (drop end s) (length a.bytes) refl)

-- ---- outside quotes: the field has ended at `end`

pub data Here (s : List ℕ) (at end k c : ℕ) : Bool → ℕ → Type 0 where
  fresh : {l : List ℕ} → Within s end → Parted l k c → take end s ≡ l → end ≡ at → Stopped false end (drop end s) → Here s at end k c false at
  text : {l m : List ℕ} → Within s end → Parted l k c → NonEscaped m → 0 < length m → take end s ≡ l ++ m → at < end → Stopped false end (drop end s) → Here s at end k c false at
  closed : {l m f : List ℕ} {o : ℕ} → Within s end → Parted l k c → Quoted m f → take end s ≡ l ++ (quote ∷ (m ++ (quote ∷ []))) → o ≡ length l → end ≡ at → Here s at end k c true o

pub here : {s : List ℕ} {at end k c o : ℕ} {q : Bool} → OutsideAt s at q o k c → FieldEnd s at q end → Here s at end k c q o
here (OutsideAt.closed w p m e d) FieldEnd.closed = Here.closed w p m e d refl
here {s} {at} {end} {k} {c} (OutsideAt.fresh {l} w p e) (FieldEnd.text r) = go r.along.bytes refl r.along.all
  where
    within : Within s end
    within = record { inside = r.along.within; short = r.along.short w.short }

    go : (m : List ℕ) → r.along.bytes ≡ m → AllStand false m → Here s at end k c false at
    go [] d all = Here.fresh within p (run_taken r.along ∙ ap₂ (λ (x y : List ℕ). x ++ y) e d ∙ append-nil l) (r.along.offset ∙ ap (λ (x : List ℕ). at + length x) d ∙ add-zero at) r.stopped
    go (b ∷ m) d all = Here.text within p (plain_of all) (omega arith) (run_taken r.along ∙ ap₂ (λ (x y : List ℕ). x ++ y) e d) (omega (arith, r.along.offset, ap length d)) r.stopped

pub at_within : {s : List ℕ} {at : ℕ} {q : Bool} {o k c : ℕ} → OutsideAt s at q o k c → at ≤ length s
at_within (OutsideAt.closed w p m e d) = w.inside
at_within (OutsideAt.fresh w p e) = w.inside

-- the field that has ended
pub record Piece (s : List ℕ) (end k c : ℕ) : Type 0 where
  pub before : List ℕ
  pub bytes : List ℕ
  pub holds : List ℕ
  pub fields : List (List ℕ)
  pub stands : Where
  pub within : Within s end
  pub parted : Parted before k c
  pub count : k ≡ length fields
  pub all_fields : Fields before fields
  pub field : Field bytes holds
  pub is : take end s ≡ before ++ bytes
  pub begun : Begun (take end s) stands fields holds
  pub outside : Outside stands

piece_of : {s : List ℕ} {end k c : ℕ} {l m f : List ℕ} {w : Where} → Within s end → Parted l k c → Field m f → take end s ≡ l ++ m → ((fs : List (List ℕ)) → Fields l fs → Begun (l ++ m) w fs f) → Outside w → Piece s end k c
piece_of {l = l} {m} {f} {w} i p q e g x =
    let (fs, r, n) = parted_fields p in
    record {
      before = l;
      bytes = m;
      holds = f;
      fields = fs;
      stands = w;
      within = i;
      parted = p;
      count = n;
      all_fields = r;
      field = q;
      is = e;
      begun = subst (λ (y : List ℕ). Begun y w fs f) (sym e) (g fs r);
      outside = x;
    }

pub piece : {s : List ℕ} {at end k c o : ℕ} {q : Bool} → Here s at end k c q o → Piece s end k c
piece (Here.fresh {l} i p e d x) = piece_of i p (Field.non_escaped NonEscaped.none) (e ∙ sym (append-nil l)) (λ fs r. subst (λ (y : List ℕ). Begun y Where.fresh fs []) (sym (append-nil l)) (Begun.fresh r)) Outside.fresh
piece (Here.text i p m n e h x) = piece_of i p (Field.non_escaped m) e (λ fs r. Begun.text r m n) Outside.text
piece (Here.closed i p m e d x) = piece_of i p (Field.escaped m) e (λ fs r. Begun.closed r m) Outside.closed

fields_short : {l : List ℕ} {fs : List (List ℕ)} → Fields l fs → length fs ≤ length l
fields_short Fields.none = omega arith
fields_short (Fields.more {l} {m = m} p r) = omega (arith, fields_short r, length-append l (comma ∷ m))

pub commas_fit : {s : List ℕ} {end k c : ℕ} → Piece s end k c → k ≤ longest_record
commas_fit {s} {end} p = omega (arith, p.count, fields_short p.all_fields, ap length p.is, length-append p.before p.bytes, as_long p.within, p.within.short)

pub field_on : {s : List ℕ} {at end : ℕ} {q : Bool} → FieldEnd s at q end → at ≤ end
field_on FieldEnd.closed = omega arith
field_on (FieldEnd.text r) = omega (arith, r.along.offset)

-- the record ends
closes : {ends : Bool} {s r : List ℕ} {end n : ℕ} → Within s end → drop end s ≡ r → NextIs ends end r (Next.Ends n) → Closes ends (take end s) s n
closes {s = s} {end = end} w d (NextIs.line_end {e} r x h) = Closes.line_end r x (all_of_it s end d) (h ∙ ap (λ (i : ℕ). i + length e) (sym (as_long w)))
closes {s = s} {end = end} w d (NextIs.text_ends t) = Closes.text_ends t (all_of_it s end d ∙ append-nil (take end s)) (sym (as_long w))

module _ {ends : Bool} {s : List ℕ} {end k c : ℕ} (p : Piece s end k c) where
  pub finds_other : {n : ℕ} → (k ≡ 1 → ⊥) → NextIs ends end (drop end s) (Next.Ends n) → Finds ends s (Found.Other n)
  finds_other h x = Finds.other (subst (λ (y : List ℕ). Record y (p.fields ++ (p.holds ∷ []))) (sym p.is) (record_of p.all_fields p.field)) (λ e. h (omega (arith, e, p.count, length-append p.fields (p.holds ∷ [])))) p.within (closes p.within refl x)

  pub finds_undecided : {r : List ℕ} → drop end s ≡ r → NextIs ends end r Next.Undecided → Finds ends s Found.Undecided
  finds_undecided d (NextIs.bytes_end t) = Finds.undecided t (subst Open (sym (all_of_it s end d ∙ append-nil (take end s))) (Open.begun p.begun (omega (arith, as_long p.within, p.within.short))))
  finds_undecided d (NextIs.return_ends t) = Finds.undecided t (subst Open (sym (all_of_it s end d)) (Open.returned p.begun p.outside (omega (arith, as_long p.within, p.within.short))))

  -- 20
  pub finds_long : {r : List ℕ} → drop end s ≡ r → NextIs ends end r Next.TooLong → Finds ends s (Found.Stops 20 end)
  finds_long {r} d (NextIs.too_long h x) =
      Finds.stops p.within p.begun (subst (λ (y : List ℕ). Faulty ends p.stands end y 20 end) (sym d) (subst (λ (i : ℕ). Faulty ends p.stands i r 20 i) most (Faulty.long p.outside x)))
    where
      most : longest_record ≡ end
      most = omega (arith, p.within.short)

  -- a comma
  pub after_comma : {r : List ℕ} → drop end s ≡ r → NextIs ends end r Next.Comma → OutsideAt s (end + 1) false (end + 1) (k + 1) (first_comma_value k c end)
  after_comma d (NextIs.a_comma h) =
      subst (λ (i : ℕ). OutsideAt s (end + 1) false (end + 1) (k + 1) (first_comma_value k c i)) (sym (ap length p.is) ∙ as_long p.within)
      (OutsideAt.fresh (within_more p.within d h) (parted_snoc p.parted p.field) (one_more s end d ∙ ap (λ (x : List ℕ). x ++ (comma ∷ [])) p.is ∙ append_assoc p.before p.bytes (comma ∷ [])))

pub finds_pair : {ends : Bool} {s : List ℕ} {end k c n : ℕ} → Piece s end k c → k ≡ 1 → NextIs ends end (drop end s) (Next.Ends n) → Finds ends s (Found.Pair c end n)
finds_pair {ends} {s} {end} {c = c} {n} p e x = go p.parted e p.is
  where
    go : {l : List ℕ} {k d : ℕ} → Parted l k d → k ≡ 1 → take end s ≡ l ++ p.bytes → Finds ends s (Found.Pair d end n)
    go Parted.none h i = absurd (omega arith)
    go (Parted.some {l} q Fields.none) h i = Finds.pair (PairOf.pair q p.field refl p.within (i ∙ append_assoc l (comma ∷ []) p.bytes) (closes p.within refl x))
    go (Parted.some q (Fields.more y r)) h i = absurd (omega arith)

-- a quote, where a field may begin or goes on
pub after_quote : {ends : Bool} {s : List ℕ} {at end k c o : ℕ} {q : Bool} {r : List ℕ} → Here s at end k c q o → end ≡ at → drop end s ≡ r → NextIs ends end r Next.Quote → InsideAt s (end + 1) o k c
after_quote {s = s} {end = end} (Here.fresh {l} w p e d x) h i (NextIs.a_quote j) =
    InsideAt.inside (within_more w i j) p Quoted.none (one_more s end i ∙ ap (λ (y : List ℕ). y ++ (quote ∷ [])) e) (omega (arith, as_long w, ap length e))
after_quote (Here.text w p m n e d x) h i (NextIs.a_quote j) = absurd (omega arith)
after_quote {s = s} {end = end} (Here.closed {l} {m} w p q e d x) h i (NextIs.a_quote j) =
    InsideAt.inside (within_more w i j) p (quoted_append q (Quoted.twice Quoted.none))
    (one_more s end i ∙ ap (λ (y : List ℕ). y ++ (quote ∷ [])) e ∙ append_assoc l (quote ∷ (m ++ (quote ∷ []))) (quote ∷ []) ∙ ap (λ (y : List ℕ). l ++ (quote ∷ y)) (append_assoc m (quote ∷ []) (quote ∷ []))) d

-- 35: a quote in a field that is not quoted
pub quote_in_text : {ends : Bool} {s : List ℕ} {at end k c o : ℕ} {q : Bool} {r : List ℕ} → Here s at end k c q o → (end ≡ at → ⊥) → drop end s ≡ r → NextIs ends end r Next.Quote → Finds ends s (Found.Stops 35 end)
unfolding piece piece_of
quote_in_text (Here.fresh w p e d x) h i (NextIs.a_quote j) = absurd (h d)
quote_in_text {ends} {end = end} (Here.text w p m n e d x) h i (NextIs.a_quote j) =
    let y = piece (Here.text w p m n e d x) in
    Finds.stops w y.begun (subst (λ (z : List ℕ). Faulty ends Where.text end z 35 end) (sym i) (Faulty.in_text j (NoLineEnd.other (λ f. omega arith) (λ f. omega arith)) (λ f. omega arith) (no_quote (omega arith) (omega arith))))
quote_in_text (Here.closed w p q e d x) h i (NextIs.a_quote j) = absurd (h x)

-- 26 and 35: another byte
stopped_not : {i b : ℕ} {s r : List ℕ} {q : Bool} → s ≡ b ∷ r → i < longest_record → Stopped q i s → Stands q b → ⊥
stopped_not {q = q} e h Stopped.no_more t = absurd (omega (arith, ap length e))
stopped_not e h (Stopped.full k) t = omega arith
stopped_not {q = q} e h (Stopped.byte {b = x} f) t = f (subst (λ (y : ℕ). Stands q y) (sym (cc)) t)

pub after_closing : {ends : Bool} {s : List ℕ} {at end k c o : ℕ} {q : Bool} {r : List ℕ} → Here s at end k c q o → q ≡ true → drop end s ≡ r → NextIs ends end r Next.Other → Finds ends s (Found.Stops 26 end)
unfolding piece piece_of
after_closing (Here.fresh w p e d x) h i y = absurd (true≢false (sym h))
after_closing (Here.text w p m n e d x) h i y = absurd (true≢false (sym h))
after_closing {ends} {end = end} (Here.closed {l} w p q e d x) h i (NextIs.other j n f g) =
    let y = piece (Here.closed w p q e d x) in
    Finds.stops w y.begun (subst (λ (z : List ℕ). Faulty ends (Where.closed (length l)) end z 26 end) (sym i) (Faulty.after_quote j n f g))

pub not_in_text : {ends : Bool} {s : List ℕ} {at end k c o : ℕ} {q : Bool} {r : List ℕ} → Here s at end k c q o → q ≡ false → drop end s ≡ r → NextIs ends end r Next.Other → Finds ends s (Found.Stops 35 end)
unfolding piece piece_of
not_in_text {ends} {end = end} (Here.fresh w p e d x) h i (NextIs.other j l f g) =
    let y = piece (Here.fresh w p e d x) in
    Finds.stops w y.begun (subst (λ (z : List ℕ). Faulty ends Where.fresh end z 35 end) (sym i) (Faulty.in_fresh j l f g (stopped_not i j x)))
not_in_text {ends} {end = end} (Here.text w p m n e d x) h i (NextIs.other j l f g) =
    let y = piece (Here.text w p m n e d x) in
    Finds.stops w y.begun (subst (λ (z : List ℕ). Faulty ends Where.text end z 35 end) (sym i) (Faulty.in_text j l f (stopped_not i j x)))
not_in_text (Here.closed w p q e d x) h i y = absurd (true≢false h)

-- ---- inside quotes

pub inside_run : {s : List ℕ} {at end o k c : ℕ} → InsideAt s at o k c → Along true s at end → InsideAt s end o k c
inside_run (InsideAt.inside {l} {m} w p q e d) a =
    InsideAt.inside (record { inside = a.within; short = a.short w.short }) p (quoted_append q (quoted_of a.all))
    (run_taken a ∙ ap (λ (x : List ℕ). x ++ a.bytes) e ∙ append_assoc l (quote ∷ m) a.bytes) d

inside_begun : {s : List ℕ} {end o k c : ℕ} → InsideAt s end o k c → (fs : List (List ℕ)) × (f : List ℕ) × Begun (take end s) (Where.inside o) fs f × Within s end
inside_begun {s} {end} {o} (InsideAt.inside {l} {m} {f} w p q e d) =
    let (fs, r, n) = parted_fields p in
    (fs, f, subst (λ (x : List ℕ). Begun x (Where.inside o) fs f) (sym e) (subst (λ (i : ℕ). Begun (l ++ (quote ∷ m)) (Where.inside i) fs f) (sym d) (Begun.inside r q)), w)

module _ {ends : Bool} {s : List ℕ} {end o k c : ℕ} (x : InsideAt s end o k c) where
  -- 25
  pub unclosed : end ≡ length s → ends ≡ true → Finds ends s (Found.Stops 25 o)
  unclosed e t =
      let (fs, f, b, w) = inside_begun x in
      Finds.stops w b (subst (λ (y : List ℕ). Faulty ends (Where.inside o) end y 25 o) (sym (at_the_end s end e)) (Faulty.unclosed t w.short))

  pub inside_undecided : end ≡ length s → ends ≡ false → Finds ends s Found.Undecided
  inside_undecided e t =
      let (fs, f, b, w) = inside_begun x in
      Finds.undecided t (subst Open (take_all end s (omega arith)) (Open.begun b (omega (arith, as_long w, w.short))))

  -- 20
  pub inside_long : end < length s → longest_record ≤ end → Finds ends s (Found.Stops 20 end)
  inside_long h i =
      let (fs, f, b, w) = inside_begun x in
      let e : longest_record ≡ end = omega (arith, w.short) in
      Finds.stops w b (subst (λ (y : List ℕ). Faulty ends (Where.inside o) end y 20 end) (sym (drop-cons s end 0 h)) (subst (λ (j : ℕ). Faulty ends (Where.inside o) j (get_or s end 0 ∷ drop (suc end) s) 20 j) e Faulty.long_inside))

  -- 35
  pub not_in_quotes : (h : end < length s) → end < longest_record → (get_or s end 0 ≡ quote → ⊥) → Stopped true end (drop end s) → Finds ends s (Found.Stops 35 end)
  not_in_quotes h i g st =
      let (fs, f, b, w) = inside_begun x in
      Finds.stops w b (subst (λ (y : List ℕ). Faulty ends (Where.inside o) end y 35 end) (sym (drop-cons s end 0 h)) (Faulty.in_quotes i g (stopped_not (drop-cons s end 0 h) i st)))

pub closing_quote : {s : List ℕ} {end o k c : ℕ} → InsideAt s end o k c → end < length s → end < longest_record → get_or s end 0 ≡ quote → OutsideAt s (end + 1) true o k c
closing_quote {s} {end} (InsideAt.inside {l} {m} w p q e d) h i g =
    let j = here_is s end h g in
    OutsideAt.closed (within_more w j i) p q (one_more s end j ∙ ap (λ (y : List ℕ). y ++ (quote ∷ [])) e ∙ append_assoc l (quote ∷ m) (quote ∷ [])) d

-- ---- a record is read from its beginning

pub at_start : (s : List ℕ) → OutsideAt s 0 false 0 0 0
at_start s = OutsideAt.fresh (record { inside = omega arith; short = omega arith }) Parted.none refl

-- ---- usual fields

pub ends_nothing : {s : List ℕ} {from : ℕ} → from ≤ length s → EndsUsual s from from
ends_nothing h = record { bytes = []; holds = []; field = UsualField.plain NonEscaped.none; is = refl; offset = omega arith; within = h }

pub ends_text : {s : List ℕ} {from r : ℕ} → Along false s from r → EndsUsual s from r
ends_text a = record { bytes = a.bytes; holds = a.bytes; field = UsualField.plain (plain_of a.all); is = a.is; offset = a.offset; within = a.within }

pub ends_quoted : {s : List ℕ} {from end : ℕ} → QuoteAt s from → Along false s (from + 1) end → end < length s → get_or s end 0 ≡ quote → EndsUsual s from (end + 1)
ends_quoted {s} {from} {end} q a h e =
    record {
      bytes = quote ∷ (a.bytes ++ (quote ∷ []));
      holds = a.bytes;
      field = UsualField.quoted (plain_of a.all);
      is = here_is s from q.inside q.is ∙ ap (λ (x : List ℕ). quote ∷ x) (a.is ∙ ap (λ (x : List ℕ). a.bytes ++ x) (here_is s end h e) ∙ sym (append_assoc a.bytes (quote ∷ []) (drop (end + 1) s)));
      offset = omega (arith, a.offset, length-append a.bytes (quote ∷ []));
      within = omega arith;
    }

pub usual_found : {ends : Bool} {s : List ℕ} {c e n : ℕ} → EndsUsual s 0 c → c < length s → get_or s c 0 ≡ comma → EndsUsual s (c + 1) e → e ≤ longest_record → NextIs ends e (drop e s) (Next.Ends n) → FindsUsual ends s (Some (c, e, n))
usual_found {ends} {s} {c} {e} a h d b k x =
    let w : Within s e = record { inside = b.within; short = k } in
    FindsUsual.pair (PairOf.pair a.field b.field (a.offset ∙ omega arith) w taken (closes w refl x))
  where
    all : s ≡ (a.bytes ++ (comma ∷ b.bytes)) ++ drop e s
    all = a.is ∙ ap (λ (y : List ℕ). a.bytes ++ y) (here_is s c h d ∙ ap (λ (y : List ℕ). comma ∷ y) b.is) ∙ sym (append_assoc a.bytes (comma ∷ b.bytes) (drop e s))

    taken : take e s ≡ a.bytes ++ (comma ∷ b.bytes)
    taken = ap (take e) all ∙ take_at (a.bytes ++ (comma ∷ b.bytes)) (drop e s) e (omega (arith, a.offset, b.offset, length-append a.bytes (comma ∷ b.bytes)))
