-- A text comes to one thing, and the promise allows one result. The beginning of a record is walked byte by byte; from one place a byte leads to one
-- place (`goes_one`), and where a record ends, or is refused, no byte leads on (`stuck`).
use Rattle.std.specs.Prelude.{ℕ, zero, suc, ◌+◌, ◌≤◌, ◌<◌, ◌≡◌, refl, Bool, true, false, List, [], ◌∷◌, ◌++◌, length, drop}
use Rattle.std.proofs.Common.{sym, ◌∙◌, ap, ap₂, subst, true≢false, append_assoc, append-nil, zero-add, arith, length-append, length-drop, drop_at}
use Rattle.whole.specs.Text.{newline}
use Rattle.writer.specs.Promise.{put}
use Rattle.commatext.specs.declared.Scan.{Scan}
use Rattle.commatext.specs.Grammar.{comma, quote, return, TextData, QuotedByte, NonEscaped, Quoted, Field, Record, LineEnd, longest_record}
use Rattle.commatext.specs.Contents.{Where, Fields, Begun, Outside, NoLineEnd, Faulty, Outcome, refused, outcome_of, Reads}
use Rattle.commatext.specs.Promise.{Closes, Open, line_of, Scans}
use Rattle.commatext.specs.Laws.{below_text, quote_no_text, comma_no_text, quote_not_quoted}

-- ---- a walk along the bytes of a record

record State : Type 0 where
  stands : Where
  fields : List (List ℕ)
  holds : List ℕ

abbrev state : Where → List (List ℕ) → List ℕ → State
state w fs f = record { stands = w; fields = fs; holds = f }

data Unquoted : Where → Type 0 where
  fresh : Unquoted Where.fresh
  text : Unquoted Where.text

-- a byte at the offset k leads on
data Goes (k : ℕ) : State → ℕ → State → Type 0 where
  text : {w : Where} {fs : List (List ℕ)} {f : List ℕ} {b : ℕ} → Unquoted w → TextData b → Goes k (state w fs f) b (state Where.text fs (f ++ (b ∷ [])))
  parts : {w : Where} {fs : List (List ℕ)} {f : List ℕ} {b : ℕ} → Outside w → b ≡ comma → Goes k (state w fs f) b (state Where.fresh (fs ++ (f ∷ [])) [])
  opens : {fs : List (List ℕ)} {f : List ℕ} {b : ℕ} → b ≡ quote → Goes k (state Where.fresh fs f) b (state (Where.inside k) fs f)
  byte : {o : ℕ} {fs : List (List ℕ)} {f : List ℕ} {b : ℕ} → QuotedByte b → Goes k (state (Where.inside o) fs f) b (state (Where.inside o) fs (f ++ (b ∷ [])))
  closes : {o : ℕ} {fs : List (List ℕ)} {f : List ℕ} {b : ℕ} → b ≡ quote → Goes k (state (Where.inside o) fs f) b (state (Where.closed o) fs f)
  again : {o : ℕ} {fs : List (List ℕ)} {f : List ℕ} {b : ℕ} → b ≡ quote → Goes k (state (Where.closed o) fs f) b (state (Where.inside o) fs (f ++ (b ∷ [])))

goes_one : {k b : ℕ} {x y z : State} → Goes k x b y → Goes k x b z → y ≡ z
goes_one (Goes.text u t) (Goes.text v s) = refl
goes_one (Goes.text u t) (Goes.parts o e) = absurd (comma_no_text e t)
goes_one (Goes.text u t) (Goes.opens e) = absurd (quote_no_text e t)
goes_one (Goes.parts o e) (Goes.text v s) = absurd (comma_no_text e s)
goes_one (Goes.parts o e) (Goes.parts p d) = refl
goes_one (Goes.parts o e) (Goes.opens d) = absurd (omega arith)
goes_one (Goes.parts o e) (Goes.again d) = absurd (omega arith)
goes_one (Goes.opens e) (Goes.text v s) = absurd (quote_no_text e s)
goes_one (Goes.opens e) (Goes.parts p d) = absurd (omega arith)
goes_one (Goes.opens e) (Goes.opens d) = refl
goes_one (Goes.byte q) (Goes.byte r) = refl
goes_one (Goes.byte q) (Goes.closes d) = absurd (quote_not_quoted d q)
goes_one (Goes.closes e) (Goes.byte r) = absurd (quote_not_quoted e r)
goes_one (Goes.closes e) (Goes.closes d) = refl
goes_one (Goes.again e) (Goes.parts p d) = absurd (omega arith)
goes_one (Goes.again e) (Goes.again d) = refl
goes_one (Goes.text u t) (Goes.byte r) = elim u [ ]
goes_one (Goes.text u t) (Goes.closes d) = elim u [ ]
goes_one (Goes.text u t) (Goes.again d) = elim u [ ]
goes_one (Goes.parts o e) (Goes.byte r) = elim o [ ]
goes_one (Goes.parts o e) (Goes.closes d) = elim o [ ]
goes_one (Goes.byte q) (Goes.text v s) = elim v [ ]
goes_one (Goes.byte q) (Goes.parts o e) = elim o [ ]
goes_one (Goes.closes e) (Goes.text v s) = elim v [ ]
goes_one (Goes.closes e) (Goes.parts o d) = elim o [ ]
goes_one (Goes.again e) (Goes.text v s) = elim v [ ]

data Walk : ℕ → State → List ℕ → State → Type 0 where
  none : {k : ℕ} {x : State} → Walk k x [] x
  step : {k b : ℕ} {x y z : State} {l : List ℕ} → Goes k x b y → Walk (suc k) y l z → Walk k x (b ∷ l) z

walk_on : {k : ℕ} {x y z : State} {l m : List ℕ} → Walk k x l y → Walk (k + length l) y m z → Walk k x (l ++ m) z
walk_on {k} {y = y} {z} {m = m} Walk.none w = subst (λ (i : ℕ). Walk i y m z) (omega arith) w
walk_on {k} {y = y} {z} {m = m} (Walk.step {l = l} g v) w = Walk.step g (walk_on v (subst (λ (i : ℕ). Walk i y m z) (omega arith) w))

walk_one : {k j b : ℕ} {x y z : State} {l : List ℕ} → Walk k x l y → j ≡ k + length l → Goes j y b z → Walk k x (l ++ (b ∷ [])) z
walk_one {b = b} {y = y} {z} w e g = walk_on w (subst (λ (i : ℕ). Walk i y (b ∷ []) z) e (Walk.step g Walk.none))

-- ---- what begins a record is walked

as_held : {k : ℕ} {x : State} {l : List ℕ} {w : Where} {fs : List (List ℕ)} {f g : List ℕ} → f ≡ g → Walk k x l (state w fs f) → Walk k x l (state w fs g)
as_held {k} {x} {l} {w} {fs} e v = subst (λ (h : List ℕ). Walk k x l (state w fs h)) e v

text_walk : {k : ℕ} {w : Where} {fs : List (List ℕ)} {f m : List ℕ} → Unquoted w → NonEscaped m → 0 < length m → Walk k (state w fs f) m (state Where.text fs (f ++ m))
text_walk u NonEscaped.none h = absurd (omega arith)
text_walk u (NonEscaped.more t NonEscaped.none) h = Walk.step (Goes.text u t) Walk.none
text_walk {f = f} u (NonEscaped.more {b} t (NonEscaped.more {l = m} s r)) h = as_held (append_assoc f (b ∷ []) _) (Walk.step (Goes.text u t) (text_walk Unquoted.text (NonEscaped.more s r) (omega arith)))

quoted_walk : {k o : ℕ} {fs : List (List ℕ)} {f m g : List ℕ} → Quoted m g → Walk k (state (Where.inside o) fs f) m (state (Where.inside o) fs (f ++ g))
quoted_walk {f = f} Quoted.none = as_held (sym (append-nil f)) Walk.none
quoted_walk {f = f} (Quoted.byte {b} {f = g} q r) = as_held (append_assoc f (b ∷ []) g) (Walk.step (Goes.byte q) (quoted_walk r))
quoted_walk {f = f} (Quoted.twice {f = g} r) = as_held (append_assoc f (quote ∷ []) g) (Walk.step (Goes.closes refl) (Walk.step (Goes.again refl) (quoted_walk r)))

-- of a quoted field, up to its end; and of any field
inside_walk : {k : ℕ} {fs : List (List ℕ)} {m f : List ℕ} → Quoted m f → Walk k (state Where.fresh fs []) (quote ∷ m) (state (Where.inside k) fs f)
inside_walk q = Walk.step (Goes.opens refl) (quoted_walk q)

closed_walk : {k : ℕ} {fs : List (List ℕ)} {m f : List ℕ} → Quoted m f → Walk k (state Where.fresh fs []) (quote ∷ (m ++ (quote ∷ []))) (state (Where.closed k) fs f)
closed_walk q = walk_one (inside_walk q) refl (Goes.closes refl)

record FieldWalk (k : ℕ) (fs : List (List ℕ)) (l f : List ℕ) : Type 0 where
  at : Where
  outside : Outside at
  walk : Walk k (state Where.fresh fs []) l (state at fs f)

field_walk : {k : ℕ} {fs : List (List ℕ)} {l f : List ℕ} → Field l f → FieldWalk k fs l f
field_walk {k} (Field.escaped q) = record { at = Where.closed k; outside = Outside.closed; walk = closed_walk q }
field_walk (Field.non_escaped NonEscaped.none) = record { at = Where.fresh; outside = Outside.fresh; walk = Walk.none }
field_walk (Field.non_escaped (NonEscaped.more t r)) = record { at = Where.text; outside = Outside.text; walk = text_walk Unquoted.fresh (NonEscaped.more t r) (omega arith) }

-- a field and its comma
comma_walk : {k : ℕ} {fs : List (List ℕ)} {l f : List ℕ} → Field l f → Walk k (state Where.fresh fs []) (l ++ (comma ∷ [])) (state Where.fresh (fs ++ (f ∷ [])) [])
comma_walk q = let w = field_walk q in walk_one w.walk refl (Goes.parts w.outside refl)

then_walk : {k : ℕ} {z : State} {fs : List (List ℕ)} {l f m : List ℕ} → Field l f → ((j : ℕ) → Walk j (state Where.fresh (fs ++ (f ∷ [])) []) m z) → Walk k (state Where.fresh fs []) (l ++ (comma ∷ m)) z
then_walk {k} {z} {fs} {l} {m = m} q w = subst (λ (y : List ℕ). Walk k (state Where.fresh fs []) y z) (append_assoc l (comma ∷ []) m) (walk_on (comma_walk q) (w (k + length (l ++ (comma ∷ [])))))

fields_walk : {k : ℕ} {gs fs : List (List ℕ)} {l : List ℕ} → Fields l fs → Walk k (state Where.fresh gs []) l (state Where.fresh (gs ++ fs) [])
fields_walk {k} {gs} Fields.none = subst (λ (x : List (List ℕ)). Walk k (state Where.fresh gs []) [] (state Where.fresh x [])) (sym (append-nil gs)) Walk.none
fields_walk {k} {gs} (Fields.more {l} {f} {m} {fs} q r) =
    then_walk q (λ j. subst (λ (x : List (List ℕ)). Walk j (state Where.fresh (gs ++ (f ∷ [])) []) m (state Where.fresh x [])) (append_assoc gs (f ∷ []) fs) (fields_walk r))

begun_walk : {l : List ℕ} {w : Where} {fs : List (List ℕ)} {f : List ℕ} → Begun l w fs f → Walk 0 (state Where.fresh [] []) l (state w fs f)
begun_walk (Begun.fresh r) = fields_walk r
begun_walk (Begun.text r m h) = walk_on (fields_walk r) (text_walk Unquoted.fresh m h)
begun_walk (Begun.inside {l} {m} {f} {fs} r q) = walk_on (fields_walk r) (subst (λ (o : ℕ). Walk (0 + length l) (state Where.fresh fs []) (quote ∷ m) (state (Where.inside o) fs f)) (zero-add (length l)) (inside_walk q))
begun_walk (Begun.closed {l} {m} {f} {fs} r q) = walk_on (fields_walk r) (subst (λ (o : ℕ). Walk (0 + length l) (state Where.fresh fs []) (quote ∷ (m ++ (quote ∷ []))) (state (Where.closed o) fs f)) (zero-add (length l)) (closed_walk q))

-- a record is walked, and ends outside quotes
record RecordWalk (k : ℕ) (gs : List (List ℕ)) (l : List ℕ) (fs : List (List ℕ)) : Type 0 where
  at : Where
  fields : List (List ℕ)
  holds : List ℕ
  outside : Outside at
  all : gs ++ fs ≡ fields ++ (holds ∷ [])
  walk : Walk k (state Where.fresh gs []) l (state at fields holds)

record_walk : {k : ℕ} (gs : List (List ℕ)) {l : List ℕ} {fs : List (List ℕ)} → Record l fs → RecordWalk k gs l fs
record_walk gs (Record.last {f = f} q) = let w = field_walk q in record { at = w.at; fields = gs; holds = f; outside = w.outside; all = refl; walk = w.walk }
record_walk {k} gs (Record.more {l} {f} {m} {fs} q r) =
    let w = record_walk {k = k + length (l ++ (comma ∷ []))} (gs ++ (f ∷ [])) r in
    record {
      at = w.at;
      fields = w.fields;
      holds = w.holds;
      outside = w.outside;
      all = sym (append_assoc gs (f ∷ []) fs) ∙ w.all;
      walk = subst (λ (y : List ℕ). Walk k (state Where.fresh gs []) y (state w.at w.fields w.holds)) (append_assoc l (comma ∷ []) m) (walk_on (comma_walk q) w.walk);
    }

-- ---- where it halts

data Halt : Type 0 where
  closed : ℕ → Halt
  ended : Halt
  stopped : ℕ → ℕ → Halt
  waiting : Halt

-- s begins with a line end of so many bytes
data LineAt : List ℕ → ℕ → Type 0 where
  return_feed : {r : List ℕ} → LineAt (return ∷ newline ∷ r) 2
  feed : {r : List ℕ} → LineAt (newline ∷ r) 1

line_at : {e : List ℕ} (r : List ℕ) → LineEnd e → LineAt (e ++ r) (length e)
line_at r LineEnd.return_feed = LineAt.return_feed
line_at r LineEnd.feed = LineAt.feed

-- the bytes s stand after k bytes of a record, where a record goes no further
data How (ends : Bool) (w : Where) (k : ℕ) (s : List ℕ) : Halt → Type 0 where
  line_end : {i n : ℕ} → Outside w → LineAt s i → n ≡ k + i → How ends w k s (Halt.closed n)
  text_ends : Outside w → ends ≡ true → s ≡ [] → How ends w k s Halt.ended
  faulty : {n p : ℕ} → Faulty ends w k s n p → How ends w k s (Halt.stopped n p)
  bytes_end : ends ≡ false → s ≡ [] → How ends w k s Halt.waiting
  return_ends : ends ≡ false → Outside w → s ≡ return ∷ [] → How ends w k s Halt.waiting

-- a line end leads nowhere outside quotes
no_line : {k b : ℕ} {w : Where} {fs : List (List ℕ)} {f : List ℕ} {y : State} → Outside w → b < 32 → Goes k (state w fs f) b y → ⊥
no_line o h (Goes.text u t) = below_text h t
no_line o h (Goes.parts p e) = omega arith
no_line o h (Goes.opens e) = omega arith
no_line o h (Goes.again e) = omega arith
no_line o h (Goes.byte _) = elim o [ ]
no_line o h (Goes.closes _) = elim o [ ]

-- where it halts no byte leads on
not_both : {ends : Bool} {i : ℕ} {s : List ℕ} → NoLineEnd ends s → LineAt s i → ⊥
not_both (NoLineEnd.other f g) LineAt.return_feed = g refl
not_both (NoLineEnd.other f g) LineAt.feed = f refl
not_both (NoLineEnd.bare_return f) LineAt.return_feed = f refl
not_both (NoLineEnd.last_return _) x5 = elim x5 [ ]

line_low : {b i : ℕ} {s : List ℕ} → LineAt (b ∷ s) i → b < 32
line_low LineAt.return_feed = omega arith
line_low LineAt.feed = omega arith

stuck : {ends : Bool} {k b : ℕ} {w : Where} {fs : List (List ℕ)} {f s r : List ℕ} {h : Halt} {y : State} → How ends w k s h → s ≡ b ∷ r → k < longest_record → Goes k (state w fs f) b y → ⊥
stuck (How.line_end {i} o e n) x h g = no_line o (line_low (subst (λ (y : List ℕ). LineAt y i) x e)) g
stuck (How.text_ends o t d) x h g = omega (arith, ap length (sym d ∙ x))
stuck (How.bytes_end t d) x h g = omega (arith, ap length (sym d ∙ x))
stuck {b = b} (How.return_ends t o d) x h g = let z : b ≡ return = cc in no_line o (omega arith) g
stuck (How.faulty v) x h g = faulty_stuck v x h g
  where
    faulty_stuck : {ends : Bool} {k b : ℕ} {w : Where} {fs : List (List ℕ)} {f s r : List ℕ} {n p : ℕ} {y : State} → Faulty ends w k s n p → s ≡ b ∷ r → k < longest_record → Goes k (state w fs f) b y → ⊥
    faulty_stuck (Faulty.long o n) x h g = omega arith
    faulty_stuck Faulty.long_inside x h g = omega arith
    faulty_stuck (Faulty.after_quote i n c q) x h (Goes.parts o e) = c (cc)
    faulty_stuck (Faulty.after_quote i n c q) x h (Goes.again e) = q (cc)
    faulty_stuck (Faulty.in_fresh i n c q t) x h (Goes.text u v) = t (subst TextData (cc) v)
    faulty_stuck (Faulty.in_fresh i n c q t) x h (Goes.parts o e) = c (cc)
    faulty_stuck (Faulty.in_fresh i n c q t) x h (Goes.opens e) = q (cc)
    faulty_stuck (Faulty.in_text i n c t) x h (Goes.text u v) = t (subst TextData (cc) v)
    faulty_stuck (Faulty.in_text i n c t) x h (Goes.parts o e) = c (cc)
    faulty_stuck (Faulty.in_quotes i q t) x h (Goes.byte v) = t (subst QuotedByte (cc) v)
    faulty_stuck (Faulty.in_quotes i q t) x h (Goes.closes e) = q (cc)
    faulty_stuck (Faulty.after_quote i n c q) x h (Goes.text u v) = elim u [ ]
    faulty_stuck (Faulty.in_quotes i q t) x h (Goes.text u v) = elim u [ ]
    faulty_stuck (Faulty.in_quotes i q t) x h (Goes.parts o e) = elim o [ ]
    faulty_stuck (Faulty.unclosed t m) x h g = omega (arith, ap length x)

-- ---- and it halts in one way

line_some : {i : ℕ} {s : List ℕ} → LineAt s i → s ≡ [] → ⊥
line_some LineAt.return_feed e = omega (arith, ap length e)
line_some LineAt.feed e = omega (arith, ap length e)

line_alone : {i : ℕ} {s : List ℕ} → LineAt s i → s ≡ return ∷ [] → ⊥
line_alone LineAt.return_feed e = omega (arith, ap length e)
line_alone LineAt.feed e = let z : ◌≡◌ {A = ℕ} newline return = cc in omega arith

line_long : {i j : ℕ} {s : List ℕ} → LineAt s i → LineAt s j → i ≡ j
line_long LineAt.return_feed LineAt.return_feed = refl
line_long LineAt.feed LineAt.feed = refl

no_line_some : {ends : Bool} {s : List ℕ} → NoLineEnd ends s → s ≡ [] → ⊥
no_line_some (NoLineEnd.other f g) e = omega (arith, ap length e)
no_line_some (NoLineEnd.bare_return f) e = omega (arith, ap length e)
no_line_some (NoLineEnd.last_return t) e = omega (arith, ap length e)

no_line_alone : {ends : Bool} {s : List ℕ} → NoLineEnd ends s → ends ≡ false → s ≡ return ∷ [] → ⊥
no_line_alone (NoLineEnd.other f g) t e = g (cc)
no_line_alone (NoLineEnd.bare_return f) t e = omega (arith, ap length e)
no_line_alone (NoLineEnd.last_return u) t e = true≢false (sym u ∙ t)

-- outside quotes a fault is no line end
faulty_outside : {ends : Bool} {w : Where} {k n p : ℕ} {s : List ℕ} → Faulty ends w k s n p → Outside w → NoLineEnd ends s
faulty_outside (Faulty.long o n) x = n
faulty_outside (Faulty.after_quote i n c q) x = n
faulty_outside (Faulty.in_fresh i n c q t) x = n
faulty_outside (Faulty.in_text i n c t) x = n
faulty_outside Faulty.long_inside x = elim x [ ]
faulty_outside (Faulty.in_quotes _ _ _) x = elim x [ ]
faulty_outside (Faulty.unclosed _ _) x = elim x [ ]

faulty_none : {ends : Bool} {w : Where} {k n p : ℕ} {s : List ℕ} → Faulty ends w k s n p → ends ≡ false → s ≡ [] → ⊥
faulty_none (Faulty.long o n) t e = no_line_some n e
faulty_none Faulty.long_inside t e = omega (arith, ap length e)
faulty_none (Faulty.after_quote i n c q) t e = omega (arith, ap length e)
faulty_none (Faulty.in_fresh i n c q u) t e = omega (arith, ap length e)
faulty_none (Faulty.in_text i n c u) t e = omega (arith, ap length e)
faulty_none (Faulty.in_quotes i q u) t e = omega (arith, ap length e)
faulty_none (Faulty.unclosed u m) t e = true≢false (sym u ∙ t)

faulty_one : {ends : Bool} {w : Where} {k n m p q : ℕ} {s : List ℕ} → Faulty ends w k s n p → Faulty ends w k s m q → Halt.stopped n p ≡ Halt.stopped m q
faulty_one (Faulty.long o n) (Faulty.long x y) = refl
faulty_one (Faulty.long o n) (Faulty.after_quote i y c q) = absurd (omega arith)
faulty_one (Faulty.long o n) (Faulty.in_fresh i y c q t) = absurd (omega arith)
faulty_one (Faulty.long o n) (Faulty.in_text i y c t) = absurd (omega arith)
faulty_one (Faulty.after_quote i n c q) (Faulty.long x y) = absurd (omega arith)
faulty_one (Faulty.after_quote i n c q) (Faulty.after_quote j y d x) = refl
faulty_one (Faulty.in_fresh i n c q t) (Faulty.long x y) = absurd (omega arith)
faulty_one (Faulty.in_fresh i n c q t) (Faulty.in_fresh j y d x u) = refl
faulty_one (Faulty.in_text i n c t) (Faulty.long x y) = absurd (omega arith)
faulty_one (Faulty.in_text i n c t) (Faulty.in_text j y d u) = refl
faulty_one Faulty.long_inside Faulty.long_inside = refl
faulty_one Faulty.long_inside (Faulty.in_quotes i q t) = absurd (omega arith)
faulty_one (Faulty.in_quotes i q t) Faulty.long_inside = absurd (omega arith)
faulty_one (Faulty.in_quotes i q t) (Faulty.in_quotes j x u) = refl
faulty_one (Faulty.unclosed t m) (Faulty.unclosed u x) = refl
faulty_one (Faulty.long o n) Faulty.long_inside = elim o [ ]
faulty_one (Faulty.long o n) (Faulty.in_quotes i q t) = elim o [ ]
faulty_one (Faulty.long o n) (Faulty.unclosed u x) = elim o [ ]
faulty_one Faulty.long_inside (Faulty.long x y) = elim x [ ]
faulty_one (Faulty.in_quotes i q t) (Faulty.long x y) = elim x [ ]
faulty_one (Faulty.unclosed t m) (Faulty.long x y) = elim x [ ]

how_one : {ends : Bool} {w : Where} {k : ℕ} {s : List ℕ} {h j : Halt} → How ends w k s h → How ends w k s j → h ≡ j
how_one {k = k} (How.line_end o e n) (How.line_end o' e' n') = ap Halt.closed (n ∙ ap (λ (i : ℕ). k + i) (line_long e e') ∙ sym n')
how_one (How.line_end o e n) (How.text_ends o' t d') = absurd (line_some e d')
how_one (How.line_end o e n) (How.faulty v) = absurd (not_both (faulty_outside v o) e)
how_one (How.line_end o e n) (How.bytes_end t d') = absurd (line_some e d')
how_one (How.line_end o e n) (How.return_ends t o' d') = absurd (line_alone e d')
how_one (How.text_ends o t d) (How.line_end o' e n) = absurd (line_some e d)
how_one (How.text_ends o t d) (How.text_ends o' t' d') = refl
how_one (How.text_ends o t d) (How.faulty v) = absurd (no_line_some (faulty_outside v o) d)
how_one (How.text_ends o t d) (How.bytes_end t' d') = absurd (true≢false (sym t ∙ t'))
how_one (How.text_ends o t d) (How.return_ends t' o' d') = absurd (true≢false (sym t ∙ t'))
how_one (How.faulty v) (How.line_end o e n) = absurd (not_both (faulty_outside v o) e)
how_one (How.faulty v) (How.text_ends o t d) = absurd (no_line_some (faulty_outside v o) d)
how_one (How.faulty v) (How.faulty u) = faulty_one v u
how_one (How.faulty v) (How.bytes_end t d) = absurd (faulty_none v t d)
how_one (How.faulty v) (How.return_ends t o d) = absurd (no_line_alone (faulty_outside v o) t d)
how_one (How.bytes_end t d) (How.line_end o e n) = absurd (line_some e d)
how_one (How.bytes_end t d) (How.text_ends o t' d') = absurd (true≢false (sym t' ∙ t))
how_one (How.bytes_end t d) (How.faulty v) = absurd (faulty_none v t d)
how_one (How.bytes_end t d) (How.bytes_end t' d') = refl
how_one (How.bytes_end t d) (How.return_ends t' o d') = refl
how_one (How.return_ends t o d) (How.line_end o' e n) = absurd (line_alone e d)
how_one (How.return_ends t o d) (How.text_ends o' t' d') = absurd (true≢false (sym t' ∙ t))
how_one (How.return_ends t o d) (How.faulty v) = absurd (no_line_alone (faulty_outside v o) t d)
how_one (How.return_ends t o d) (How.bytes_end t' d') = refl
how_one (How.return_ends t o d) (How.return_ends t' o' d') = refl

-- ---- two walks along the same bytes halt at the same place

record Halts (ends : Bool) (k : ℕ) (x : State) (s : List ℕ) (y : State) (h : Halt) : Type 0 where
  bytes : List ℕ
  rest : List ℕ
  offset : ℕ
  is : s ≡ bytes ++ rest
  walk : Walk k x bytes y
  long : offset ≡ k + length bytes
  short : offset ≤ longest_record
  how : How ends y.stands offset rest h

at_offset : {ends : Bool} {w : Where} {k j : ℕ} {s r : List ℕ} {h : Halt} → k ≡ j → s ≡ r → How ends w k s h → How ends w j r h
at_offset {ends} {w} {k} {j} {s} {r} {h} e d x = subst (λ (i : ℕ). How ends w i r h) e (subst (λ (y : List ℕ). How ends w k y h) d x)

same_halt : {ends : Bool} {k i j : ℕ} {x y z : State} {l m r q : List ℕ} {h n : Halt} → Walk k x l y → Walk k x m z → l ++ r ≡ m ++ q → i ≡ k + length l → j ≡ k + length m → i ≤ longest_record → j ≤ longest_record
    → How ends y.stands i r h → How ends z.stands j q n → (y ≡ z) × (h ≡ n)
same_halt Walk.none Walk.none e a b c d u v = (refl, how_one u (at_offset (omega arith) (sym e) v))
same_halt Walk.none (Walk.step g w) e a b c d u v = absurd (stuck (at_offset (omega arith) refl u) e (omega arith) g)
same_halt (Walk.step g w) Walk.none e a b c d u v = absurd (stuck (at_offset (omega arith) refl v) (sym e) (omega arith) g)
same_halt {k = k} {x = x} {z = z} (Walk.step {b = b} {y = o} {l = l} g w) (Walk.step {b = b'} {y = o'} {l = m} g' w') e a c i j u v =
    let d : b ≡ b' = cc in
    let f = goes_one g (subst (λ (t : ℕ). Goes k x t o') (sym d) g') in
    same_halt w (subst (λ (t : State). Walk (suc k) t m z) (sym f) w') (cc) (omega arith) (omega arith) i j u v

-- what a text comes to at its front: its first record with the fields gs, or the beginning of one
record Front (ends : Bool) (s : List ℕ) (gs : List (List ℕ)) (h : Halt) : Type 0 where
  to : State
  all : gs ≡ to.fields ++ (to.holds ∷ [])
  halts : Halts ends 0 (state Where.fresh [] []) s to h

front_one : {ends : Bool} {s : List ℕ} {gs fs : List (List ℕ)} {h j : Halt} → Front ends s gs h → Front ends s fs j → (gs ≡ fs) × (h ≡ j)
front_one a b =
    let (e, d) = same_halt a.halts.walk b.halts.walk (sym a.halts.is ∙ b.halts.is) a.halts.long b.halts.long a.halts.short b.halts.short a.halts.how b.halts.how in
    (a.all ∙ ap (λ (t : State). t.fields ++ (t.holds ∷ [])) e ∙ sym b.all, d)

front_record : {ends : Bool} {l r : List ℕ} {fs : List (List ℕ)} {h : Halt} → Record l fs → length l ≤ longest_record → ((w : Where) → Outside w → How ends w (length l) r h) → Front ends (l ++ r) fs h
front_record {l = l} {r} p i f =
    let w = record_walk [] p in
    record { to = state w.at w.fields w.holds; all = w.all; halts = record { bytes = l; rest = r; offset = length l; is = refl; walk = w.walk; long = omega arith; short = i; how = f w.at w.outside } }

front_begun : {ends : Bool} {l r : List ℕ} {w : Where} {fs : List (List ℕ)} {f : List ℕ} {h : Halt} → Begun l w fs f → length l ≤ longest_record → How ends w (length l) r h → Front ends (l ++ r) (fs ++ (f ∷ [])) h
front_begun {l = l} {r} {w} {fs} {f} b i x = record { to = state w fs f; all = refl; halts = record { bytes = l; rest = r; offset = length l; is = refl; walk = begun_walk b; long = omega arith; short = i; how = x } }

faulty_short : {ends : Bool} {w : Where} {k n p : ℕ} {s : List ℕ} → Faulty ends w k s n p → k ≤ longest_record
faulty_short (Faulty.long o n) = omega arith
faulty_short Faulty.long_inside = omega arith
faulty_short (Faulty.after_quote i n c q) = omega arith
faulty_short (Faulty.in_fresh i n c q u) = omega arith
faulty_short (Faulty.in_text i n c u) = omega arith
faulty_short (Faulty.in_quotes i q u) = omega arith
faulty_short (Faulty.unclosed u m) = m

front_faulty : {ends : Bool} {l r : List ℕ} {w : Where} {fs : List (List ℕ)} {f : List ℕ} {n p : ℕ} → Begun l w fs f → Faulty ends w (length l) r n p → Front ends (l ++ r) (fs ++ (f ∷ [])) (Halt.stopped n p)
front_faulty b v = front_begun b (faulty_short v) (How.faulty v)

-- ---- the promise

-- the halt of a record, n bytes of s with its line end
data Closed (s : List ℕ) : Halt → ℕ → Type 0 where
  by_line : {n : ℕ} → Closed s (Halt.closed n) n
  by_end : {n : ℕ} → n ≡ length s → Closed s Halt.ended n

closing : {ends : Bool} {l s : List ℕ} {fs : List (List ℕ)} {n : ℕ} → Record l fs → length l ≤ longest_record → Closes ends l s n → (h : Halt) × Front ends s fs h × Closed s h n
closing {ends} {l} {s} {fs} {n} p i (Closes.line_end {e} r x d m) = (Halt.closed n, subst (λ (y : List ℕ). Front ends y fs (Halt.closed n)) (sym d) (front_record p i (λ w o. How.line_end o (line_at r x) m)), Closed.by_line)
closing {ends} {l} {s} {fs} p i (Closes.text_ends t d m) =
    (Halt.ended, subst (λ (y : List ℕ). Front ends y fs Halt.ended) (append-nil l ∙ sym d) (front_record p i (λ w o. How.text_ends o t refl)), Closed.by_end (m ∙ ap length (sym d)))

closed_one : {s : List ℕ} {h j : Halt} {n m : ℕ} → Closed s h n → Closed s j m → h ≡ j → n ≡ m
closed_one Closed.by_line Closed.by_line e = cc
closed_one Closed.by_line (Closed.by_end d) e = let z : ◌≡◌ {A = ℕ} 0 1 = cc in absurd (omega arith)
closed_one (Closed.by_end d) Closed.by_line e = let z : ◌≡◌ {A = ℕ} 0 1 = cc in absurd (omega arith)
closed_one (Closed.by_end d) (Closed.by_end c) e = d ∙ sym c

closed_goes : {s : List ℕ} {h : Halt} {m n p : ℕ} → Closed s h m → h ≡ Halt.stopped n p → ⊥
closed_goes Closed.by_line e = let z : ◌≡◌ {A = ℕ} 0 1 = cc in omega arith
closed_goes (Closed.by_end d) e = let z : ◌≡◌ {A = ℕ} 0 1 = cc in omega arith

closed_known : {s : List ℕ} {h : Halt} {m : ℕ} → Closed s h m → h ≡ Halt.waiting → ⊥
closed_known Closed.by_line e = let z : ◌≡◌ {A = ℕ} 0 1 = cc in omega arith
closed_known (Closed.by_end d) e = let z : ◌≡◌ {A = ℕ} 0 1 = cc in omega arith

open_front : {s : List ℕ} → Open s → (gs : List (List ℕ)) × Front false s gs Halt.waiting
open_front (Open.begun {l} {w} {fs} {f} b i) = (fs ++ (f ∷ []), subst (λ (y : List ℕ). Front false y (fs ++ (f ∷ [])) Halt.waiting) (append-nil l) (front_begun b i (How.bytes_end refl refl)))
open_front (Open.returned {fs = fs} {f} b o i) = (fs ++ (f ∷ []), front_begun b i (How.return_ends refl o refl))

-- what the promise says of the front
data Seen (ends : Bool) (s b : List ℕ) : List ℕ → Scan → Type 0 where
  entry : {f g : List ℕ} {h : Halt} {n : ℕ} → Front ends s (f ∷ g ∷ []) h → Closed s h n → Seen ends s b (put b 0 (line_of f g)) (Scan.Entry (length (line_of f g)) n)
  miscounted : {fs : List (List ℕ)} {h : Halt} {n : ℕ} → Front ends s fs h → (length fs ≡ 2 → ⊥) → Closed s h n → Seen ends s b b (Scan.Miscounted n)
  stops : {fs : List (List ℕ)} {n p : ℕ} → Front ends s fs (Halt.stopped n p) → Seen ends s b b (Scan.Stops n p)
  undecided : {fs : List (List ℕ)} → Front ends s fs Halt.waiting → Seen ends s b b Scan.Undecided

seen : {ends : Bool} {s b c : List ℕ} {r : Scan} → Scans ends s b c r → Seen ends s b c r
seen (Scans.entry p i c) = let (h, f, x) = closing p i c in Seen.entry f x
seen (Scans.miscounted p k i c) = let (h, f, x) = closing p i c in Seen.miscounted f k x
seen {ends} (Scans.stops {fs = fs} {f} {n} {p} e b v) = Seen.stops (subst (λ (y : List ℕ). Front ends y (fs ++ (f ∷ [])) (Halt.stopped n p)) (sym e) (front_faulty b v))
seen {ends} {s} (Scans.undecided t o) = let (gs, f) = open_front o in Seen.undecided (subst (λ (e : Bool). Front e s gs Halt.waiting) (sym t) f)

seen_one : {ends : Bool} {s b c d : List ℕ} {r q : Scan} → Seen ends s b c r → Seen ends s b d q → (c ≡ d) × (r ≡ q)
seen_one {b = b} (Seen.entry {f} {g} u x) (Seen.entry {f = f'} {g = g'} v y) =
    let (e, h) = front_one u v in
    let i : f ≡ f' = cc in
    let j : g ≡ g' = cc in
    (ap₂ (λ (m n : List ℕ). put b 0 (line_of m n)) i j, ap₂ Scan.Entry (ap₂ (λ (m n : List ℕ). length (line_of m n)) i j) (closed_one x y h))
seen_one (Seen.entry u x) (Seen.miscounted v k y) = absurd (k (sym (ap length (front_one u v).0)))
seen_one (Seen.entry u x) (Seen.stops v) = absurd (closed_goes x (front_one u v).1)
seen_one (Seen.entry u x) (Seen.undecided v) = absurd (closed_known x (front_one u v).1)
seen_one (Seen.miscounted u k x) (Seen.entry v y) = absurd (k (ap length (front_one u v).0))
seen_one (Seen.miscounted u k x) (Seen.miscounted v l y) = (refl, ap Scan.Miscounted (closed_one x y (front_one u v).1))
seen_one (Seen.miscounted u k x) (Seen.stops v) = absurd (closed_goes x (front_one u v).1)
seen_one (Seen.miscounted u k x) (Seen.undecided v) = absurd (closed_known x (front_one u v).1)
seen_one (Seen.stops u) (Seen.entry v y) = absurd (closed_goes y (front_one v u).1)
seen_one (Seen.stops u) (Seen.miscounted v l y) = absurd (closed_goes y (front_one v u).1)
seen_one (Seen.stops {n = n} {p} u) (Seen.stops {n = m} {p = q} v) = let e = (front_one u v).1 in (refl, ap₂ Scan.Stops (cc) (cc))
seen_one (Seen.stops u) (Seen.undecided v) = let e = (front_one u v).1 in let z : ◌≡◌ {A = ℕ} 0 1 = cc in absurd (omega arith)
seen_one (Seen.undecided u) (Seen.entry v y) = absurd (closed_known y (front_one v u).1)
seen_one (Seen.undecided u) (Seen.miscounted v l y) = absurd (closed_known y (front_one v u).1)
seen_one (Seen.undecided u) (Seen.stops v) = let e = (front_one u v).1 in let z : ◌≡◌ {A = ℕ} 0 1 = cc in absurd (omega arith)
seen_one (Seen.undecided u) (Seen.undecided v) = (refl, refl)

pub scans_one : {ends : Bool} {s b c d : List ℕ} {r q : Scan} → Scans ends s b c r → Scans ends s b d q → (c ≡ d) × (r ≡ q)
scans_one x y = seen_one (seen x) (seen y)

-- ---- the whole text

front_empty : Front true [] ([] ∷ []) Halt.ended
front_empty = front_record (Record.last (Field.non_escaped NonEscaped.none)) (omega arith) (λ w o. How.text_ends o refl refl)

-- what a text comes to, by its front
data Whole (o : ℕ) (s : List ℕ) (ws : List Outcome) : Type 0 where
  none : s ≡ [] → ws ≡ [] → Whole o s ws
  last : {fs : List (List ℕ)} → Front true s fs Halt.ended → 0 < length s → ws ≡ outcome_of o fs ∷ [] → Whole o s ws
  more : {n : ℕ} {fs : List (List ℕ)} {rs : List Outcome} → Front true s fs (Halt.closed n) → 0 < n → n ≤ length s → Reads (o + n) (drop n s) rs → ws ≡ outcome_of o fs ∷ rs → Whole o s ws
  stops : {n p : ℕ} {fs : List (List ℕ)} → Front true s fs (Halt.stopped n p) → ws ≡ refused n (o + p) ∷ [] → Whole o s ws

line_end_some : {e : List ℕ} → LineEnd e → 0 < length e
line_end_some LineEnd.return_feed = omega arith
line_end_some LineEnd.feed = omega arith

after_record : (l e s : List ℕ) → drop (length l + length e) (l ++ (e ++ s)) ≡ s
after_record l e s = ap (drop (length l + length e)) (sym (append_assoc l e s)) ∙ drop_at (l ++ e) s (length l + length e) (length-append l e)

whole : {o : ℕ} {s : List ℕ} {rs : List Outcome} → Reads o s rs → Whole o s rs
whole Reads.none = Whole.none refl refl
whole (Reads.last {l = l} {fs} p h i) = Whole.last (subst (λ (y : List ℕ). Front true y fs Halt.ended) (append-nil l) (front_record p i (λ w o. How.text_ends o refl refl))) h refl
whole {o} (Reads.more {l = l} {e} {s} {rs = rs} p i x r) =
    Whole.more {n = length l + length e} (front_record p i (λ w c. How.line_end c (line_at s x) refl)) (omega (arith, line_end_some x)) (omega (arith, length-append l (e ++ s), length-append e s))
    (subst (λ (y : List ℕ). Reads (o + (length l + length e)) y rs) (sym (after_record l e s)) r) refl
whole (Reads.stops b v) = Whole.stops (front_faulty b v) refl

whole_empty : {s : List ℕ} {fs : List (List ℕ)} {h : Halt} → s ≡ [] → Front true s fs h → h ≡ Halt.ended
whole_empty {s} {fs} {h} e u = (front_one (subst (λ (y : List ℕ). Front true y fs h) e u) front_empty).1

-- two halts that differ
other_halt : {h j : Halt} {A : Type 0} → h ≡ j → (h ≡ j → ◌≡◌ {A = ℕ} 0 1) → A
other_halt e f = absurd (omega (arith, f e))

-- where it is shown of what is shorter
whole_one : {o : ℕ} {s : List ℕ} {ws vs : List Outcome} → ((i : ℕ) (t : List ℕ) (rs qs : List Outcome) → length t < length s → Reads i t rs → Reads i t qs → rs ≡ qs) → Whole o s ws → Whole o s vs → ws ≡ vs
whole_one h (Whole.none e x) (Whole.none d y) = x ∙ sym y
whole_one h (Whole.none e x) (Whole.last v i y) = absurd (omega (arith, ap length e))
whole_one h (Whole.none e x) (Whole.more v i j q y) = absurd (omega (arith, ap length e))
whole_one h (Whole.none e x) (Whole.stops v y) = other_halt (whole_empty e v) (λ d. cc)
whole_one h (Whole.last u i x) (Whole.none d y) = absurd (omega (arith, ap length d))
whole_one {o} h (Whole.last u i x) (Whole.last v j y) = x ∙ ap (λ (z : List (List ℕ)). outcome_of o z ∷ []) (front_one u v).0 ∙ sym y
whole_one h (Whole.last u i x) (Whole.more v j l q y) = other_halt (front_one u v).1 (λ d. cc)
whole_one h (Whole.last u i x) (Whole.stops v y) = other_halt (front_one u v).1 (λ d. cc)
whole_one h (Whole.more u i j r x) (Whole.none d y) = absurd (omega (arith, ap length d))
whole_one h (Whole.more u i j r x) (Whole.last v l y) = other_halt (front_one u v).1 (λ d. cc)
whole_one {o} {s} h (Whole.more {n} {fs} {rs} u i j r x) (Whole.more {n = n'} {fs = fs'} {rs = qs} v l m q y) =
    let (e, d) = front_one u v in
    let c : n ≡ n' = cc in
    x ∙ ap₂ (λ (z : List (List ℕ)) (t : List Outcome). outcome_of o z ∷ t) e (h (o + n) (drop n s) rs qs (omega (arith, length-drop n s)) r (subst (λ (z : ℕ). Reads (o + z) (drop z s) qs) (sym c) q)) ∙ sym y
whole_one h (Whole.more u i j r x) (Whole.stops v y) = other_halt (front_one u v).1 (λ d. cc)
whole_one h (Whole.stops u x) (Whole.none d y) = other_halt (whole_empty d u) (λ e. cc)
whole_one h (Whole.stops u x) (Whole.last v l y) = other_halt (front_one u v).1 (λ d. cc)
whole_one h (Whole.stops u x) (Whole.more v l m q y) = other_halt (front_one u v).1 (λ d. cc)
whole_one {o} h (Whole.stops {n} {p} u x) (Whole.stops {n = m} {p = q} v y) = let d = (front_one u v).1 in x ∙ ap₂ (λ (z t : ℕ). refused z (o + t) ∷ []) (cc) (cc) ∙ sym y

-- by how many bytes are left
short_one : (k o : ℕ) (s : List ℕ) (rs qs : List Outcome) → length s ≤ k → Reads o s rs → Reads o s qs → rs ≡ qs
short_one zero o s rs qs h r q = whole_one (λ i t ws vs l. absurd (omega arith)) (whole r) (whole q)
short_one (suc k) o s rs qs h r q = whole_one (λ i t ws vs l. short_one k i t ws vs (omega arith)) (whole r) (whole q)

pub reads_one : {o : ℕ} {s : List ℕ} {rs qs : List Outcome} → Reads o s rs → Reads o s qs → rs ≡ qs
reads_one {o} {s} {rs} {qs} r q = short_one (length s) o s rs qs (omega arith) r q
