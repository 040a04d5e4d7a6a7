-- Numbers in texts.
use Rattle.std.specs.Prelude.{ℕ, ◌+◌, ◌-◌, ◌*◌, ◌==◌, ◌&&◌, nat_le, nat_lt, Bool, not, List, length, slice_index, Option, Some, None, if◌then◌else◌}
use Rattle.std.specs.List.{list_all, fold}
use Rattle.std.specs.Char.{is_ascii_digit}
use Rattle.lgc_tokens.specs.declared.number.TheConstants.{MOST_NUMBER, MOST_LONG_NUMBER}

-- the number that digits write
abbrev pub number_of : List ℕ → ℕ
number_of digits = fold (λ number digit. 10 * number + (digit - 48)) 0 digits

-- two bytes or more, of which the first is a 0
abbrev pub has_leading_zero : List ℕ → Bool
has_leading_zero text = nat_lt 1 (length text) && (slice_index text 0 == 48)

-- digits alone, without a leading zero unless they are 0, that write a number up to this one
abbrev pub writes_up_to : ℕ → List ℕ → Bool
writes_up_to most text = list_all is_ascii_digit text && (not (has_leading_zero text) && nat_le (number_of text) most)

-- the number that a text writes, where it writes one up to this one
abbrev pub number_up_to : ℕ → List ℕ → Option ℕ
number_up_to most text = if writes_up_to most text then Some (number_of text) else None

-- the number that a text writes, where it writes one
unfoldable pub number_in : List ℕ → Option ℕ
number_in text = number_up_to MOST_NUMBER text

-- the same of the number of a line or of a let
unfoldable pub long_number_in : List ℕ → Option ℕ
long_number_in text = number_up_to MOST_LONG_NUMBER text
