-- What a program that reads blocks does next, by its phase, and what has happened since the last call. All are tables.
-- Assumes nothing.
use Rattle.std.specs.Prelude.{ℕ, zero, suc, ◌≤◌, ◌<◌, min, Bool, true, false, List, length, Option, Some, None}
use Rattle.writer.specs.Promise.{put}
use Rattle.filter.specs.declared.Phase.{Phase}
use Rattle.filter.specs.declared.Phase.TheVariants.{Reading, Midway, Closing, Failing, Ended}
use Rattle.filter.specs.declared.Stream.{Stream}
use Rattle.filter.specs.declared.Stream.TheVariants.{Output, Error}
use Rattle.filter.specs.declared.Event.{Event}
use Rattle.filter.specs.declared.Event.TheVariants.{Block, InputEnds, Unread, Unwritten, Finished}
use Rattle.filter.specs.declared.State.{State}

-- there is something left to do
abbrev pub goes_on_value : Phase → Bool
goes_on_value Reading = true
goes_on_value Midway = true
goes_on_value Closing = true
goes_on_value Failing = true
goes_on_value Ended = false

-- messages go to standard error, all else to standard output
abbrev pub output_of : Phase → Stream
output_of Reading = Output
output_of Midway = Output
output_of Closing = Output
output_of Failing = Error
output_of Ended = Output

-- the bytes of a block
abbrev pub block_size : ℕ
block_size = 65536

-- a whole block is read, or nothing
abbrev pub room_of : Phase → Bool → ℕ
room_of Reading true = block_size
room_of Reading false = 0
room_of Midway w = 0
room_of Closing w = 0
room_of Failing w = 0
room_of Ended w = 0

-- what the answer of a read tells: it failed, the input has ended, or so many bytes came
abbrev pub arrived_of : Option ℕ → Event
arrived_of None = Unread
arrived_of (Some zero) = InputEnds
arrived_of (Some (suc k)) = Block 0 (min (suc k) block_size)

-- what has happened, in a phase, with a block that has n bytes and is used up to `at`, by whether the output was written and what the read answered
abbrev pub event_in : Phase → ℕ → ℕ → Bool → Option ℕ → Event
event_in Reading at n true g = arrived_of g
event_in Reading at n false g = Unwritten
event_in Midway at n true g = Block at n
event_in Midway at n false g = Unwritten
event_in Closing at n true g = Finished
event_in Closing at n false g = Unwritten
event_in Failing at n w g = Finished
event_in Ended at n w g = Finished

abbrev pub event_of : State → Bool → Option ℕ → Event
event_of s = event_in s.phase s.at s.count

abbrev pub state_with_value : Phase → ℕ → State
state_with_value p u = record { phase = p; at = 0; count = 0; held = 0; used = u }

-- the message t stands at the front of the output; one that has no room is left out
pub data PutsMessage (t o : List ℕ) : List ℕ → State → Type 0 where
  put_there : length t ≤ length o → PutsMessage t o (put o 0 t) (state_with_value Failing (length t))
  left_out : length o < length t → PutsMessage t o o (state_with_value Failing 0)
