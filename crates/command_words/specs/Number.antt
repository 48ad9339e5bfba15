-- The number that a word writes.
use Rattle.std.specs.Prelude.{ℕ, List, Option, Some, None, if◌then◌else◌, ◌&&◌, nat_le, bytes_eq, decimal}
use Rattle.std.specs.Str.Parse.{digits_value}

-- The word is the decimal of a number from 1 to `most`, and this is the number.
-- So there is no sign and no leading zero.
abbrev pub number_of : (most : ℕ) → List ℕ → Option ℕ
number_of most word =
    let number = digits_value 10 word in
    if bytes_eq word (decimal number) && nat_le 1 number && nat_le number most then Some number
    else None
