-- The letters of identifiers, names and values (PHC string format).
use Rattle.std.specs.Prelude.{ℕ, ◌==◌, ◌&&◌, ◌||◌, Bool, nat_le, List, length}
use Rattle.std.specs.List.{list_all}

-- `a-z`
abbrev pub is_lowercase : ℕ → Bool
is_lowercase b = nat_le 97 b && nat_le b 122

-- `A-Z`
abbrev pub is_uppercase : ℕ → Bool
is_uppercase b = nat_le 65 b && nat_le b 90

-- `0-9`
abbrev pub is_digit : ℕ → Bool
is_digit b = nat_le 48 b && nat_le b 57

-- `a-z0-9-`
abbrev pub is_identifier_letter : ℕ → Bool
is_identifier_letter b = is_lowercase b || is_digit b || (b == 45)

-- `a-zA-Z0-9/+.-`
abbrev pub is_value_letter : ℕ → Bool
is_value_letter b =
    is_lowercase b || is_uppercase b || is_digit b
    || (b == 47) || (b == 43) || (b == 46) || (b == 45)

-- `a-zA-Z0-9+/`, the letters of Base64
abbrev pub is_base64_letter : ℕ → Bool
is_base64_letter b = is_lowercase b || is_uppercase b || is_digit b || (b == 43) || (b == 47)

-- an identifier: 1 to 32 of `a-z0-9-`
abbrev pub is_identifier : List ℕ → Bool
is_identifier text = nat_le 1 (length text) && (nat_le (length text) 32 && list_all is_identifier_letter text)

-- a value: one or more of `a-zA-Z0-9/+.-`
abbrev pub is_value : List ℕ → Bool
is_value text = nat_le 1 (length text) && list_all is_value_letter text
