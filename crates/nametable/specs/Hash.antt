-- Which chain a name belongs to: one number for each name. Nothing else matters of it, but that names of a catalogue are spread over the chains.
use Rattle.std.specs.Prelude.{◌≡◌, ℕ, zero, suc, ◌+◌, ◌-◌, ◌*◌, ◌/◌, ◌%◌, ◌^◌, ◌<◌, List, length, nat_le, nat_lt, slice_index}
use Rattle.digits.specs.Promise.{pick}

abbrev pub four_of : List ℕ → ℕ → ℕ
four_of s at = slice_index s at + 256 * (slice_index s (at + 1) + 256 * (slice_index s (at + 2) + 256 * slice_index s (at + 3)))

-- r is the number of four bytes
pub record FourIs (s : List ℕ) (at r : ℕ) : Type 0 where
  pub is : r ≡ four_of s at
  pub small : r < 4_294_967_296

unfoldable pub word_of : List ℕ → ℕ → ℕ
word_of s at = four_of s at + 4_294_967_296 * four_of s (at + 4)

-- 64 bits, with what was mixed before
abbrev pub spread : ℕ → ℕ
spread x = x % 4_294_967_296 * 1_640_531_527 + x / 4_294_967_296 * 2_246_822_519

unfoldable pub mix_of : ℕ → ℕ → ℕ
mix_of h w = spread ((h + w) % 2 ^ 64)

-- fewer than eight bytes
unfoldable pub few_of : List ℕ → ℕ
few_of s =
    pick (nat_le 4 (length s)) (four_of s 0 + 4_294_967_296 * four_of s (length s - 4))
    (pick (nat_lt (length s) 1) 0 (slice_index s 0 + 256 * slice_index s (length s / 2) + 65_536 * slice_index s (length s - 1)))

-- eight bytes after eight, n times
unfoldable pub words_of : List ℕ → ℕ → ℕ
words_of s zero = length s
words_of s (suc n) = mix_of (words_of s n) (word_of s (8 * n))

-- and at the end the last eight
unfoldable pub many_of : List ℕ → ℕ
many_of s = mix_of (words_of s ((length s - 1) / 8)) (word_of s (length s - 8))

abbrev pub chain_of_value : ℕ → ℕ
chain_of_value h = h / 4_294_967_296 % 1024

unfoldable pub bucket_of_value : List ℕ → ℕ
bucket_of_value s = chain_of_value (pick (nat_lt (length s) 8) (mix_of (length s) (few_of s)) (many_of s))
