-- From what the calls below say to the promises.
-- Assumes nothing.
use Rattle.std.specs.Prelude.{ℕ, ◌≤◌, ◌≡◌, Bool, true, false, List, length, Option, Some, None, unwrap_or}
use Rattle.std.proofs.Common.{sym, ◌∙◌, ap, subst, zero-add, arith}
use Rattle.writer.specs.Promise.{put, Copies}
use Rattle.filter.specs.declared.Phase.{Phase}
use Rattle.filter.specs.declared.Phase.TheVariants.{Reading, Midway, Closing, Failing, Ended}
use Rattle.filter.specs.declared.State.{State}
use Rattle.filter.specs.Promise.{block_size, room_of, state_with_value, PutsMessage}

-- ---- the room for a read lies in the block

pub room_fits : (p : Phase) (w : Bool) → room_of p w ≤ block_size
room_fits Reading true = omega arith
room_fits Reading false = omega arith
room_fits Midway w = omega arith
room_fits Closing w = omega arith
room_fits Failing w = omega arith
room_fits Ended w = omega arith

-- ---- a message

pub message : {t o o' : List ℕ} {n : ℕ} {s : State} (a : Option ℕ) → Copies t o 0 o' a → n ≡ unwrap_or a 0 → s ≡ state_with_value Failing n → PutsMessage t o o' s
message {t} {o} (Some k) (Copies.copied h) f e = subst (PutsMessage t o (put o 0 t)) (sym (e ∙ ap (state_with_value Failing) (f ∙ zero-add (length t)))) (PutsMessage.put_there (omega arith))
message {t} {o} None (Copies.no_room h) f e = subst (PutsMessage t o o) (sym (e ∙ ap (state_with_value Failing) f)) (PutsMessage.left_out (omega arith))
