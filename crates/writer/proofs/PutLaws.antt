-- Laws of what is put into a buffer, and of the loops that put it.
use Rattle.std.specs.Prelude.{ℕ, suc, ◌+◌, ◌-◌, ◌≤◌, ◌<◌, ◌/◌, ◌%◌, ◌≡◌, refl, Bool, true, List, [], ◌∷◌, ◌++◌, length, get_or, take, drop, set, ℤ, nat_abs, Ok}
use Rattle.std.proofs.Common.{sym, ◌∙◌, ap, ap₂, subst, append_assoc, add-zero, arith, length-set, length-append, length-take, length-drop, take-append-drop, drop-set-lt, drop-cons, get_or-set_same, take_at, take-suc, take_all, drop-drop, length-take-le}
use Rattle.std.proofs.lemmas.List.{take-set-le}
use Rattle.std.proofs.Math.Seq.{drop-append-add}
use Rattle.writer.specs.Promise.{put, digits_of, Width, WriteYmd, whole_text}
use Rattle.digits.specs.Numerals.{dash}
use Rattle.whole.specs.Promise.{is_negative_value}
use Rattle.writer.specs.Laws.{PutText, whole_width, length_digits, length_whole, ymd_text_value, wrote, text_is, size_is}

-- ---- a buffer

pub put_none : (b : List ℕ) (i : ℕ) → put b i [] ≡ b
put_none b i = ap (λ (k : ℕ). take i b ++ drop k b) (add-zero i) ∙ take-append-drop i b

pub length_put : (b : List ℕ) (i : ℕ) (t : List ℕ) → i + length t ≤ length b → length (put b i t) ≡ length b
length_put b i t h = simp (length-append, length-take, length-drop) (omega arith)

-- a text, and another after it
module _ (b : List ℕ) (i : ℕ) (t u : List ℕ) (h : i + length t ≤ length b) where
  put_as : put b i t ≡ (take i b ++ t) ++ drop (i + length t) b
  put_as = sym (append_assoc (take i b) t (drop (i + length t) b))

  put_long : length (take i b ++ t) ≡ i + length t
  put_long = length-append (take i b) t ∙ ap (λ (k : ℕ). k + length t) (length-take-le i b (omega arith))

  after_both : i + length t + length u ≡ i + length (t ++ u)
  after_both = omega (arith, length-append t u)

  pub put_then : put (put b i t) (i + length t) u ≡ put b i (t ++ u)
  put_then =
      ap₂ (λ (x y : List ℕ). x ++ (u ++ y))
      (ap (take (i + length t)) put_as ∙ take_at (take i b ++ t) (drop (i + length t) b) (i + length t) put_long)
      (ap (drop (i + length t + length u)) put_as
      ∙ ap (λ (k : ℕ). drop (k + length u) ((take i b ++ t) ++ drop (i + length t) b)) (sym put_long)
      ∙ drop-append-add (take i b ++ t) (drop (i + length t) b) (length u)
      ∙ drop-drop (length u) (i + length t) b
      ∙ ap (λ (k : ℕ). drop k b) after_both)
      ∙ append_assoc (take i b) t (u ++ drop (i + length (t ++ u)) b)
      ∙ ap (λ (x : List ℕ). take i b ++ x) (sym (append_assoc t u (drop (i + length (t ++ u)) b)))

-- a byte after a text: it may be put there first
module _ (b : List ℕ) (i : ℕ) (t : List ℕ) (x : ℕ) (h : i + length t < length b) where
  after : drop (i + length t) (set b (i + length t) x) ≡ x ∷ drop (i + length (t ++ (x ∷ []))) b
  after =
      drop-cons (set b (i + length t) x) (i + length t) 0 (subst (λ (k : ℕ). i + length t < k) (sym (length-set b (i + length t) x)) h)
      ∙ ap₂ (λ (y : ℕ) (l : List ℕ). y ∷ l) (get_or-set_same b (i + length t) x 0 h)
      (drop-set-lt (suc (i + length t)) b (i + length t) x (omega arith) ∙ ap (λ (k : ℕ). drop k b) one_on)
    where
      one_on : suc (i + length t) ≡ i + length (t ++ (x ∷ []))
      one_on = omega (arith, length-append t (x ∷ []))

  pub put_before : put (set b (i + length t) x) i t ≡ put b i (t ++ (x ∷ []))
  put_before =
      ap₂ (λ (u w : List ℕ). u ++ (t ++ w)) (take-set-le i b (i + length t) x (omega arith)) after
      ∙ ap (λ (l : List ℕ). take i b ++ l) (sym (append_assoc t (x ∷ []) (drop (i + length (t ++ (x ∷ []))) b)))

pub put_byte : (b : List ℕ) (i x : ℕ) → i < length b → set b i x ≡ put b i (x ∷ [])
put_byte b i x h =
    sym (put_none (set b i x) i) ∙ ap (λ (k : ℕ). put (set b k x) i []) (sym (add-zero i)) ∙ put_before b i [] x (omega arith)

-- ---- what was put, and more after it

pub put_on : {b : List ℕ} {at : ℕ} {t b' : List ℕ} {i : ℕ} → PutText b at t b' i → (u : List ℕ) {c : List ℕ} {j : ℕ} → at + length t + length u ≤ length b → PutText b' i u c j → PutText b at (t ++ u) c j
put_on {b} {at} {t} {b'} {i} s u {c} {j} h r =
    record {
      is = r.is ∙ ap₂ (λ (x : List ℕ) (k : ℕ). put x k u) s.is s.offset ∙ put_then b at t u (omega arith);
      offset = r.offset ∙ omega (arith, s.offset, length-append t u);
    }

-- ---- bytes copied into the buffer, one after another

pub record Copying (b₀ : List ℕ) (at : ℕ) (t b : List ℕ) (i : ℕ) : Type 0 where
  pub is : b ≡ put b₀ at (take i t)
  pub inside : i ≤ length t
  pub same : length b ≡ length b₀

pub copying_start : (b : List ℕ) (at : ℕ) (t : List ℕ) → Copying b at t b 0
copying_start b at t = record { is = sym (put_none b at); inside = omega arith; same = refl }

module _ {b₀ : List ℕ} {at : ℕ} {t b : List ℕ} {i : ℕ} (h : at + length t ≤ length b₀) (c : Copying b₀ at t b i) where
  pub copying_on : i < length t → Copying b₀ at t (set b (at + i) (get_or t i 0)) (i + 1)
  copying_on l =
      record {
        is = put_byte b (at + i) (get_or t i 0) (omega (arith, c.same)) ∙ ap (λ (x : List ℕ). put x (at + i) (get_or t i 0 ∷ [])) c.is ∙ ap (λ (k : ℕ). put (put b₀ at (take i t)) (at + k) (get_or t i 0 ∷ [])) (sym long)
            ∙ put_then b₀ at (take i t) (get_or t i 0 ∷ []) (omega (arith, long)) ∙ ap (put b₀ at) (sym (take-suc t i 0 l)) ∙ ap (λ (k : ℕ). put b₀ at (take k t)) one_on;
        inside = omega arith;
        same = length-set b (at + i) (get_or t i 0) ∙ c.same;
      }
    where
      long : length (take i t) ≡ i
      long = length-take-le i t c.inside

      one_on : suc i ≡ i + 1
      one_on = omega arith

  pub copying_done : length t ≤ i → PutText b₀ at t b (at + length t)
  copying_done l = record { is = c.is ∙ ap (put b₀ at) (take_all i t l); offset = refl }

-- ---- the loop that puts digits from the last to the first: what is still to be put takes b to the whole

pub record Filling (b₀ : List ℕ) (at k n : ℕ) (b : List ℕ) (left rest : ℕ) : Type 0 where
  pub len : length b ≡ length b₀
  pub room : at + left ≤ length b
  pub same : put b at (digits_of left rest) ≡ put b₀ at (digits_of k n)

module _ {b₀ : List ℕ} {at k n : ℕ} {b : List ℕ} {left rest : ℕ} (f : Filling b₀ at k n b left rest) where
  pub filling_step : 0 < left → Filling b₀ at k n (set b (at + (left - 1)) (48 + rest % 10)) (left - 1) (rest / 10)
  filling_step h =
      record {
        len = length-set b (at + (left - 1)) (48 + rest % 10) ∙ f.len;
        room = subst (λ (i : ℕ). at + (left - 1) ≤ i) (sym (length-set b (at + (left - 1)) (48 + rest % 10))) (omega (arith, f.room));
        same = put_one ∙ sym (ap (λ (i : ℕ). put b at (digits_of i rest)) one_more) ∙ f.same;
      }
    where
      one_more : left ≡ suc (left - 1)
      one_more = omega arith

      long : length (digits_of (left - 1) (rest / 10)) ≡ left - 1
      long = length_digits (left - 1) (rest / 10)

      put_one : put (set b (at + (left - 1)) (48 + rest % 10)) at (digits_of (left - 1) (rest / 10)) ≡ put b at (digits_of (suc (left - 1)) rest)
      put_one =
          ap (λ (i : ℕ). put (set b (at + i) (48 + rest % 10)) at (digits_of (left - 1) (rest / 10))) (sym long)
          ∙ put_before b at (digits_of (left - 1) (rest / 10)) (48 + rest % 10) (omega (arith, long, f.room))

  pub filling_done : left ≤ 0 → b ≡ put b₀ at (digits_of k n)
  filling_done h = let z : left ≡ 0 = omega arith in sym (put_none b at) ∙ sym (ap (λ (i : ℕ). put b at (digits_of i rest)) z) ∙ f.same

-- ---- the parts of a date

pub put_dashed : (k n : ℕ) {b : List ℕ} {at : ℕ} {b' : List ℕ} {i : ℕ} → at + 1 + k ≤ length b → PutText (set b at dash) (at + 1) (digits_of k n) b' i → PutText b at (whole_text true k n) b' i
put_dashed k n {b} {at} h s = put_on {t = dash ∷ []} (record { is = put_byte b at dash (omega arith); offset = refl }) (digits_of k n) (omega (arith, length_digits k n)) s

-- a year, and a month and a day with a dash before each
module _ (neg : Bool) (ky n km m kd d : ℕ) {b b₁ b₂ b₃ : List ℕ} {i₁ i₂ i₃ : ℕ} (h : whole_width neg ky + km + kd + 2 ≤ length b)
    (s₁ : PutText b 0 (whole_text neg ky n) b₁ i₁) (s₂ : PutText b₁ i₁ (whole_text true km m) b₂ i₂) (s₃ : PutText b₂ i₂ (whole_text true kd d) b₃ i₃) where
  pub put_ymd : PutText b 0 (ymd_text_value neg ky n km m kd d) b₃ i₃
  put_ymd =
      subst (λ (t : List ℕ). PutText b 0 t b₃ i₃) (append_assoc (whole_text neg ky n) (whole_text true km m) (whole_text true kd d))
      (put_on (put_on s₁ (whole_text true km m) (omega (arith, w, lm)) s₂) (whole_text true kd d) (omega (arith, w, lm, ld, l₂)) s₃)
    where
      w : length (whole_text neg ky n) ≡ whole_width neg ky
      w = length_whole neg ky n

      lm : length (whole_text true km m) ≡ km + 1
      lm = length_whole true km m

      ld : length (whole_text true kd d) ≡ kd + 1
      ld = length_whole true kd d

      l₂ : length (whole_text neg ky n ++ whole_text true km m) ≡ length (whole_text neg ky n) + length (whole_text true km m)
      l₂ = length-append (whole_text neg ky n) (whole_text true km m)

-- ---- a date, whose year has the sign neg and the magnitude n

module _ (y : ℤ) (m d : ℕ) {neg : Bool} {n ky km kd w : ℕ} (e : neg ≡ is_negative_value y) (a : n ≡ nat_abs y) (wy : Width n ky) (wm : Width m km) (wd : Width d kd)
    (s : w ≡ whole_width neg ky) (b : List ℕ) where
  pub ymd_wrote : w + km + kd + 2 ≤ length b → {b₁ b₂ b₃ : List ℕ} {i₁ i₂ i₃ : ℕ}
      → PutText b 0 (whole_text neg ky n) b₁ i₁ → PutText b₁ i₁ (whole_text true km m) b₂ i₂ → PutText b₂ i₂ (whole_text true kd d) b₃ i₃ → WriteYmd y m d b b₃ (Ok i₃)
  ymd_wrote h s₁ s₂ s₃ = wrote (text_is y m d e a wy wm wd s b) (omega (arith, size_is y m d e a wy wm wd s b)) (put_ymd neg ky n km m kd d (subst (λ (i : ℕ). i + km + kd + 2 ≤ length b) s h) s₁ s₂ s₃)
