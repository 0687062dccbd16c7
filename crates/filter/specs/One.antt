-- The promise of a message allows one result. The other promises are equations.
-- Assumes nothing.
use Rattle.std.specs.Prelude.{ℕ, ◌≡◌, refl, List}
use Rattle.std.proofs.Common.{arith}
use Rattle.filter.specs.declared.State.{State}
use Rattle.filter.specs.Promise.{PutsMessage}

pub puts_message_one : {t o p q : List ℕ} {r s : State} → PutsMessage t o p r → PutsMessage t o q s → (p ≡ q) × (r ≡ s)
puts_message_one (PutsMessage.put_there h) (PutsMessage.put_there k) = (refl, refl)
puts_message_one (PutsMessage.put_there h) (PutsMessage.left_out k) = absurd (omega arith)
puts_message_one (PutsMessage.left_out h) (PutsMessage.put_there k) = absurd (omega arith)
puts_message_one (PutsMessage.left_out h) (PutsMessage.left_out k) = (refl, refl)
