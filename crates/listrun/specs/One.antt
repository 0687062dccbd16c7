-- Two results that a promise allows for one input are equal.
-- Assumes nothing.
use Rattle.std.specs.Prelude.{ℕ, ◌≡◌, refl, List, ◌++◌, length}
use Rattle.std.proofs.Common.{ap, arith}
use Rattle.writer.specs.Promise.{put}
use Rattle.listing.specs.One.{last_line_one, lists_one}
use Rattle.listing.specs.Promise.{BlockState}
use Rattle.filter.specs.declared.Phase.{Phase}
use Rattle.filter.specs.declared.Phase.TheVariants.{Reading, Midway, Closing}
use Rattle.filter.specs.declared.Event.{Event}
use Rattle.filter.specs.declared.State.{State}
use Rattle.filter.specs.Promise.{state_with_value}
use Rattle.filter.specs.One.{puts_message_one}
use Rattle.columns.specs.Columns.{header}
use Rattle.linetext.specs.One.{ended_one}
use Rattle.nametable.specs.declared.Names.{Names}
use Rattle.catalogue.proofs.One.{names_in_one}
use Rattle.cataloguerun.specs.declared.CatalogueRun.{CatalogueRun}
use Rattle.listrun.specs.Promise.{Begins, Refuses, Starts, state_at_value, Advances, Closes, GoesOn}

pub starts_one : {run : CatalogueRun} {o p q : List ℕ} {r s : State} → Starts run o p r → Starts run o q s → (p ≡ q) × (r ≡ s)
starts_one (Starts.with_catalogue Begins.begins) (Starts.with_catalogue Begins.begins) = (refl, refl)
starts_one {o = o} (Starts.with_refused (Refuses.refuses x)) (Starts.with_refused (Refuses.refuses y)) =
    let e = ended_one x.is y.is in (ap (λ (t : List ℕ). put o 0 (header ++ t)) e, ap (λ (t : List ℕ). state_with_value Closing (length (header ++ t))) e)
starts_one Starts.with_unread Starts.with_unread = (refl, refl)
starts_one Starts.with_unfinished Starts.with_unfinished = (refl, refl)

state_from : Phase → ℕ → BlockState → State
state_from p n e = state_at_value p e.at n e.held e.used

advances_one : {i : Names} {b l o : List ℕ} {from n h : ℕ} {k m p q : List ℕ} {r s : State} → Advances i b l o from n h k p r → Advances i b l o from n h m q s → (k ≡ m) × (p ≡ q) × (r ≡ s)
unfolding state_from
advances_one {i} {n = n} (Advances.used_up v x) (Advances.used_up w y) = let e = lists_one (names_in_one i) v w in (ap (λ (x : BlockState). x.line) e, ap (λ (x : BlockState). x.out) e, ap (state_from Reading n) e)
advances_one {i} (Advances.used_up v x) (Advances.within w y) = absurd (omega (arith, ap (λ (x : BlockState). x.at) (lists_one (names_in_one i) v w)))
advances_one {i} (Advances.within v x) (Advances.used_up w y) = absurd (omega (arith, ap (λ (x : BlockState). x.at) (lists_one (names_in_one i) v w)))
advances_one {i} {n = n} (Advances.within v x) (Advances.within w y) = let e = lists_one (names_in_one i) v w in (ap (λ (x : BlockState). x.line) e, ap (λ (x : BlockState). x.out) e, ap (state_from Midway n) e)

closes_one : {i : Names} {l o : List ℕ} {h : ℕ} {p q : List ℕ} {r s : State} → Closes i l h o p r → Closes i l h o q s → (p ≡ q) × (r ≡ s)
closes_one {i} {o = o} (Closes.closes x) (Closes.closes y) = let e = last_line_one (names_in_one i) x y in (ap (put o 0) e, ap (λ (t : List ℕ). state_with_value Closing (length t)) e)

pub goes_on_one : {i : Names} {b l o : List ℕ} {s : State} {v : Event} {k m p q : List ℕ} {r t : State} → GoesOn i b l o s v k p r → GoesOn i b l o s v m q t → (k ≡ m) × (p ≡ q) × (r ≡ t)
goes_on_one (GoesOn.works_on x) (GoesOn.works_on y) = advances_one x y
goes_on_one (GoesOn.last_line x) (GoesOn.last_line y) = let (e, f) = closes_one x y in (refl, e, f)
goes_on_one (GoesOn.cannot_read x) (GoesOn.cannot_read y) = let (e, f) = puts_message_one x y in (refl, e, f)
goes_on_one (GoesOn.cannot_write x) (GoesOn.cannot_write y) = let (e, f) = puts_message_one x y in (refl, e, f)
goes_on_one GoesOn.ends GoesOn.ends = (refl, refl, refl)
