-- Every text comes to something, whatever its bytes are: the beginning of a record goes on byte by byte, until it ends or a byte does not fit.
use Rattle.std.specs.Prelude.{ℕ, zero, suc, ◌+◌, ◌≤◌, ◌<◌, ◌≡◌, refl, ◌⊎◌}
use Rattle.std.proofs.Common.{sym, ◌∙◌, inl, inr}
use Rattle.std.proofs.Math.Path.{ap, subst}
use Rattle.std.proofs.Math.Bool.{true}
use Rattle.std.proofs.Math.Logic.{⊎_elim}
use mathlib.Core.List.{List, [], ◌∷◌, ◌++◌, append_assoc, append-nil}
use native.Mathlib.Omega.{arith}
use Rattle.std.proofs.Math.ListN.{length, length-append}
use Rattle.whole.specs.Text.{newline}
use Rattle.whole.specs.Tests.{lt_or_ge, eq_or_not}
use Rattle.commatext.specs.Grammar.{comma, quote, return, TextData, QuotedByte, NonEscaped, Quoted, Field, Record, LineEnd, longest_record}
use Rattle.commatext.specs.Contents.{Where, Fields, Begun, Outside, NoLineEnd, Faulty, Outcome, outcome_of, refused, Reads}
use Rattle.commatext.specs.Laws.{above_text, below_text, no_quote, no_comma, not_quoted, quoted_append, fields_snoc, record_of}

-- ---- which bytes go on in a field

text_or_not : (b : ℕ) → TextData b ⊎ (TextData b → ⊥)
text_or_not b = ⊎_elim (λ h. inr (below_text h)) (λ h. ⊎_elim (λ i. inl (TextData.from_20 h (omega arith))) (λ i. ⊎_elim (λ j. inr (no_quote (omega arith) j)) (λ j. ⊎_elim (λ k. inl (TextData.from_23 j (omega arith))) (λ k. ⊎_elim (λ l. inr (no_comma (omega arith) l)) (λ l. ⊎_elim (λ m. inr (above_text m)) (λ m. inl (TextData.from_2_d l m)) (lt_or_ge 126 b)) (lt_or_ge b 45)) (lt_or_ge b 44)) (lt_or_ge b 35)) (lt_or_ge b 34)) (lt_or_ge b 32)

quoted_or_not : (b : ℕ) → QuotedByte b ⊎ (QuotedByte b → ⊥)
quoted_or_not b = ⊎_elim (λ t. inl (QuotedByte.text t)) (λ t. ⊎_elim (λ c. inl (QuotedByte.a_comma c)) (λ c. ⊎_elim (λ r. inl (QuotedByte.a_return r)) (λ r. ⊎_elim (λ f. inl (QuotedByte.a_feed f)) (λ f. inr (not_quoted t c r f)) (eq_or_not b newline)) (eq_or_not b return)) (eq_or_not b comma)) (text_or_not b)

-- ---- where the record at the front of a text stops

data Stop (s : List ℕ) : Type 0 where
  closed : {l e : List ℕ} {fs : List (List ℕ)} (r : List ℕ) → Record l fs → length l ≤ longest_record → LineEnd e → s ≡ l ++ (e ++ r) → Stop s
  ended : {fs : List (List ℕ)} → Record s fs → length s ≤ longest_record → Stop s
  faulty : {l r : List ℕ} {w : Where} {fs : List (List ℕ)} {f : List ℕ} {n p : ℕ} → Begun l w fs f → Faulty true w (length l) r n p → s ≡ l ++ r → Stop s

-- a record may end outside quotes
begun_record : {l : List ℕ} {w : Where} {fs : List (List ℕ)} {f : List ℕ} → Begun l w fs f → Outside w → Record l (fs ++ (f ∷ []))
begun_record (Begun.fresh {l} {fs} r) o = subst (λ (x : List ℕ). Record x (fs ++ ([] ∷ []))) (append-nil l) (record_of r (Field.non_escaped NonEscaped.none))
begun_record (Begun.text r m h) o = record_of r (Field.non_escaped m)
begun_record (Begun.closed r q) o = record_of r (Field.escaped q)
begun_record (Begun.inside _ _) o = elim o [ ]

-- a comma ends the field
begun_comma : {l : List ℕ} {w : Where} {fs : List (List ℕ)} {f : List ℕ} → Begun l w fs f → Outside w → Begun (l ++ (comma ∷ [])) Where.fresh (fs ++ (f ∷ [])) []
begun_comma (Begun.fresh r) o = Begun.fresh (fields_snoc r (Field.non_escaped NonEscaped.none))
begun_comma (Begun.text {l} {m} {fs} r p h) o = subst (λ (x : List ℕ). Begun x Where.fresh (fs ++ (m ∷ [])) []) (sym (append_assoc l m (comma ∷ []))) (Begun.fresh (fields_snoc r (Field.non_escaped p)))
begun_comma (Begun.closed {l} {m} {f} {fs} r q) o = subst (λ (x : List ℕ). Begun x Where.fresh (fs ++ (f ∷ [])) []) (sym (append_assoc l (quote ∷ (m ++ (quote ∷ []))) (comma ∷ []))) (Begun.fresh (fields_snoc r (Field.escaped q)))
begun_comma (Begun.inside _ _) o = elim o [ ]

plain_snoc : {m : List ℕ} {b : ℕ} → NonEscaped m → TextData b → NonEscaped (m ++ (b ∷ []))
plain_snoc NonEscaped.none t = NonEscaped.more t NonEscaped.none
plain_snoc (NonEscaped.more u r) t = NonEscaped.more u (plain_snoc r t)

-- ---- a byte more

data LineHere (s : List ℕ) : Type 0 where
  line : {e : List ℕ} (r : List ℕ) → LineEnd e → s ≡ e ++ r → LineHere s
  none : NoLineEnd true s → LineHere s

line_here : (b : ℕ) (s : List ℕ) → LineHere (b ∷ s)
line_here b s = ⊎_elim (λ e. LineHere.line s LineEnd.feed (ap (λ (x : ℕ). x ∷ s) e)) (λ e. ⊎_elim (λ d. subst (λ (x : ℕ). LineHere (x ∷ s)) (sym d) (after s)) (λ d. LineHere.none (NoLineEnd.other e d)) (eq_or_not b return)) (eq_or_not b newline)
  where
    after : (s : List ℕ) → LineHere (return ∷ s)
    after [] = LineHere.none (NoLineEnd.last_return refl)
    after (c ∷ t) = ⊎_elim (λ e. LineHere.line t LineEnd.return_feed (ap (λ (x : ℕ). return ∷ x ∷ t) e)) (λ e. LineHere.none (NoLineEnd.bare_return e)) (eq_or_not c newline)

-- what comes of the beginning l and the bytes after it, where it is known what comes of a beginning that has the byte b too
Later : List ℕ → ℕ → List ℕ → Type 0
Later l b r = (w : Where) (fs : List (List ℕ)) (f : List ℕ) → Begun (l ++ (b ∷ [])) w fs f → length l < longest_record → Stop (l ++ (b ∷ r))

module _ (b : ℕ) (r : List ℕ) where
  inside_next : {l m f : List ℕ} {fs : List (List ℕ)} → Fields l fs → Quoted m f → length (l ++ (quote ∷ m)) ≤ longest_record → Later (l ++ (quote ∷ m)) b r → Stop ((l ++ (quote ∷ m)) ++ (b ∷ r))
  unfolding Later
  inside_next {l} {m} {f} {fs} p q h go = ⊎_elim short long (lt_or_ge (length (l ++ (quote ∷ m))) longest_record)
    where
      begun : Begun (l ++ (quote ∷ m)) (Where.inside (length l)) fs f
      begun = Begun.inside p q

      long : longest_record ≤ length (l ++ (quote ∷ m)) → Stop ((l ++ (quote ∷ m)) ++ (b ∷ r))
      long k = let e : longest_record ≡ length (l ++ (quote ∷ m)) = omega arith in Stop.faulty begun (subst (λ (i : ℕ). Faulty true (Where.inside (length l)) i (b ∷ r) 20 i) e Faulty.long_inside) refl

      short : length (l ++ (quote ∷ m)) < longest_record → Stop ((l ++ (quote ∷ m)) ++ (b ∷ r))
      short k = ⊎_elim
          (λ e. go (Where.closed (length l)) fs f (subst (λ (x : List ℕ). Begun x (Where.closed (length l)) fs f) (sym (append_assoc l (quote ∷ m) (b ∷ []))) (subst (λ (i : ℕ). Begun (l ++ (quote ∷ (m ++ (i ∷ [])))) (Where.closed (length l)) fs f) (sym e) (Begun.closed p q))) k)
          (λ e. ⊎_elim
          (λ t. go (Where.inside (length l)) fs (f ++ (b ∷ [])) (subst (λ (x : List ℕ). Begun x (Where.inside (length l)) fs (f ++ (b ∷ []))) (sym (append_assoc l (quote ∷ m) (b ∷ []))) (Begun.inside p (quoted_append q (Quoted.byte t Quoted.none)))) k)
          (λ t. Stop.faulty begun (Faulty.in_quotes k e t) refl)
          (quoted_or_not b))
          (eq_or_not b quote)

  -- outside quotes, where no line end stands there
  module _ (n : NoLineEnd true (b ∷ r)) where
    common : {l : List ℕ} {w : Where} {fs : List (List ℕ)} {f : List ℕ} → Begun l w fs f → Outside w → length l ≤ longest_record → Later l b r → (length l < longest_record → (b ≡ comma → ⊥) → Stop (l ++ (b ∷ r))) → Stop (l ++ (b ∷ r))
    unfolding Later
    common {l} {w} {fs} {f} p o h go other = ⊎_elim
        (λ k. ⊎_elim (λ e. go Where.fresh (fs ++ (f ∷ [])) [] (subst (λ (i : ℕ). Begun (l ++ (i ∷ [])) Where.fresh (fs ++ (f ∷ [])) []) (sym e) (begun_comma p o)) k) (λ e. other k e) (eq_or_not b comma))
        (λ k. let e : longest_record ≡ length l = omega arith in Stop.faulty p (subst (λ (i : ℕ). Faulty true w i (b ∷ r) 20 i) e (Faulty.long o n)) refl)
        (lt_or_ge (length l) longest_record)

    outside_next : {l : List ℕ} {w : Where} {fs : List (List ℕ)} {f : List ℕ} → Begun l w fs f → Outside w → length l ≤ longest_record → Later l b r → Stop (l ++ (b ∷ r))
    unfolding Later
    outside_next (Begun.fresh {l} {fs} p) o h go = common (Begun.fresh p) o h go (λ k c. ⊎_elim
        (λ e. go (Where.inside (length l)) fs [] (subst (λ (i : ℕ). Begun (l ++ (i ∷ [])) (Where.inside (length l)) fs []) (sym e) (Begun.inside p Quoted.none)) k)
        (λ e. ⊎_elim (λ t. go Where.text fs (b ∷ []) (Begun.text p (NonEscaped.more t NonEscaped.none) (omega arith)) k) (λ t. Stop.faulty (Begun.fresh p) (Faulty.in_fresh k n c e t) refl) (text_or_not b))
        (eq_or_not b quote))
    outside_next (Begun.text {l} {m} {fs} p q i) o h go = common (Begun.text p q i) o h go (λ k c. ⊎_elim
        (λ t. go Where.text fs (m ++ (b ∷ [])) (subst (λ (x : List ℕ). Begun x Where.text fs (m ++ (b ∷ []))) (sym (append_assoc l m (b ∷ []))) (Begun.text p (plain_snoc q t) (omega (arith, length-append m (b ∷ []))))) k)
        (λ t. Stop.faulty (Begun.text p q i) (Faulty.in_text k n c t) refl)
        (text_or_not b))
    outside_next (Begun.inside _ _) o h go = elim o [ ]
    outside_next (Begun.closed {l} {m} {f} {fs} p q) o h go = common (Begun.closed p q) o h go (λ k c. ⊎_elim
        (λ e. go (Where.inside (length l)) fs (f ++ (quote ∷ [])) (subst (λ (i : ℕ). Begun ((l ++ (quote ∷ (m ++ (quote ∷ [])))) ++ (i ∷ [])) (Where.inside (length l)) fs (f ++ (quote ∷ []))) (sym e) (reopened p q)) k)
        (λ e. Stop.faulty (Begun.closed p q) (Faulty.after_quote k n c e) refl)
        (eq_or_not b quote))
      where
        reopened : {l m f : List ℕ} {fs : List (List ℕ)} → Fields l fs → Quoted m f → Begun ((l ++ (quote ∷ (m ++ (quote ∷ [])))) ++ (quote ∷ [])) (Where.inside (length l)) fs (f ++ (quote ∷ []))
        reopened {l} {m} {f} {fs} p q = subst (λ (x : List ℕ). Begun x (Where.inside (length l)) fs (f ++ (quote ∷ []))) (sym (append_assoc l (quote ∷ (m ++ (quote ∷ []))) (quote ∷ []) ∙ ap (λ (x : List ℕ). l ++ (quote ∷ x)) (append_assoc m (quote ∷ []) (quote ∷ [])))) (Begun.inside p (quoted_append q (Quoted.twice Quoted.none)))

  next : {l : List ℕ} {w : Where} {fs : List (List ℕ)} {f : List ℕ} → Begun l w fs f → length l ≤ longest_record → Later l b r → Stop (l ++ (b ∷ r))
  next {l} p h go = by p h go (line_here b r)
    where
      outside : {l : List ℕ} {w : Where} {fs : List (List ℕ)} {f : List ℕ} → Begun l w fs f → Outside w → length l ≤ longest_record → Later l b r → LineHere (b ∷ r) → Stop (l ++ (b ∷ r))
      outside {l} p o h go (LineHere.line t e d) = Stop.closed t (begun_record p o) h e (ap (λ (x : List ℕ). l ++ x) d)
      outside p o h go (LineHere.none n) = outside_next n p o h go

      by : {l : List ℕ} {w : Where} {fs : List (List ℕ)} {f : List ℕ} → Begun l w fs f → length l ≤ longest_record → Later l b r → LineHere (b ∷ r) → Stop (l ++ (b ∷ r))
      by (Begun.fresh p) h go x = outside (Begun.fresh p) Outside.fresh h go x
      by (Begun.text p q i) h go x = outside (Begun.text p q i) Outside.text h go x
      by (Begun.closed p q) h go x = outside (Begun.closed p q) Outside.closed h go x
      by (Begun.inside p q) h go x = inside_next p q h go

-- ---- byte after byte

at_the_end : {l : List ℕ} {w : Where} {fs : List (List ℕ)} {f : List ℕ} → Begun l w fs f → length l ≤ longest_record → Stop l
at_the_end (Begun.fresh p) h = Stop.ended (begun_record (Begun.fresh p) Outside.fresh) h
at_the_end (Begun.text p q i) h = Stop.ended (begun_record (Begun.text p q i) Outside.text) h
at_the_end (Begun.closed p q) h = Stop.ended (begun_record (Begun.closed p q) Outside.closed) h
at_the_end (Begun.inside {l} {m} p q) h = Stop.faulty (Begun.inside p q) (Faulty.unclosed refl h) (sym (append-nil (l ++ (quote ∷ m))))

stop_from : (r : List ℕ) (l : List ℕ) (w : Where) (fs : List (List ℕ)) (f : List ℕ) → Begun l w fs f → length l ≤ longest_record → Stop (l ++ r)
unfolding Later
stop_from [] l w fs f p h = subst Stop (sym (append-nil l)) (at_the_end p h)
stop_from (b ∷ r) l w fs f p h = next b r p h (λ x gs g q k. subst Stop (append_assoc l (b ∷ []) r) (stop_from r (l ++ (b ∷ [])) x gs g q (omega (arith, length-append l (b ∷ [])))))

stop : (s : List ℕ) → Stop s
stop s = stop_from s [] Where.fresh [] [] (Begun.fresh Fields.none) (omega arith)

-- ---- record after record

some_bytes : {e : List ℕ} → LineEnd e → 0 < length e
some_bytes LineEnd.return_feed = omega arith
some_bytes LineEnd.feed = omega arith

-- by what the first one comes to, where it is known of what is shorter
reads_front : (o : ℕ) (s : List ℕ) → 0 < length s → ((i : ℕ) (t : List ℕ) → length t < length s → (rs : List Outcome) × Reads i t rs) → Stop s → (rs : List Outcome) × Reads o s rs
reads_front o s h go (Stop.closed {l} {e} {fs} r p i x d) =
    let (rs, q) = go (o + (length l + length e)) r (omega (arith, ap length d, length-append l (e ++ r), length-append e r, some_bytes x)) in
    (outcome_of o fs ∷ rs, subst (λ (y : List ℕ). Reads o y (outcome_of o fs ∷ rs)) (sym d) (Reads.more p i x q))
reads_front o s h go (Stop.ended {fs} p i) = (outcome_of o fs ∷ [], Reads.last p h i)
reads_front o s h go (Stop.faulty {n = n} {p} b v d) = (refused n (o + p) ∷ [], subst (λ (y : List ℕ). Reads o y (refused n (o + p) ∷ [])) (sym d) (Reads.stops b v))

reads_short : (k o : ℕ) (s : List ℕ) → length s ≤ k → (rs : List Outcome) × Reads o s rs
reads_short zero o [] h = ([], Reads.none)
reads_short zero o (b ∷ s) h = absurd (omega arith)
reads_short (suc k) o [] h = ([], Reads.none)
reads_short (suc k) o (b ∷ s) h = reads_front o (b ∷ s) (omega arith) (λ i t l. reads_short k i t (omega arith)) (stop (b ∷ s))

pub reads_some : (o : ℕ) (s : List ℕ) → (rs : List Outcome) × Reads o s rs
reads_some o s = reads_short (length s) o s (omega arith)
