-- The options before a command, and the limits that they set on a stored hash.
use Rattle.std.specs.Prelude.{ℕ, ◌-◌, ◌^◌, Bool, ◌==◌, false, true, bytes_eq, codes, if◌then◌else◌, nat_eq, nat_lt, List, [], ◌∷◌, Option, None, Some, String, length, map, option_and_then, option_map, string_bytes, take, unwrap_or}
use Rattle.std.specs.Global.{Global}
use Rattle.std.specs.List.{after_first, before_first, ends_with, position_or_len}
use Rattle.std.specs.Option.{option_map_or}
use Rattle.password_hash.specs.Decimal.{decimal_below}
use Rattle.scrypt.specs.Accepted.{Parameters}
use Rattle.scrypt.specs.Limits.{admitting}
use Rattle.scrypt.specs.declared.limits.Limits.{Limits}
use Rattle.scrypt.specs.declared.limits.TheConstants.Limits.{DEFAULT}
use Rattle.scrypt_commands.specs.declared.limit_options.LimitOptions.{LimitOptions}

-- the default limits of the library
abbrev pub defaults : LimitOptions
defaults = record { limits = DEFAULT; min_key_len = None }

-- the options with the option of this name added, if its value is a number below 2 ^ 64
unfoldable pub with_number : LimitOptions → List ℕ → List ℕ → Option LimitOptions
with_number b name value = option_and_then (λ n.
    if bytes_eq name (codes "--max-mem") then Some (record b { limits = record b.limits { max_mem = n } })
    else if bytes_eq name (codes "--max-work") then Some (record b { limits = record b.limits { max_work = n } })
    else if bytes_eq name (codes "--min-key-len") then Some (record b { min_key_len = Some n })
    else None) (decimal_below (2 ^ 64) value)

-- The limits on a hash. The minimum key length is the default unless an option sets it. If a new
-- hash is wanted, the limits are raised where necessary to admit it, and a short key, which is
-- weaker than wanted, is allowed unless an option sets a minimum.
abbrev pub limits_of : LimitOptions → Option Parameters → Limits
limits_of b None = record b.limits { min_key_len = unwrap_or b.min_key_len b.limits.min_key_len }
limits_of b (Some wanted) = record (admitting b.limits wanted) { min_key_len = unwrap_or b.min_key_len 0 }

-- the texts of words
abbrev pub texts_of : List (String Global) → List (List ℕ)
texts_of words = map string_bytes words

-- the options before a command
pub record Options : Type 0 where
  pub limit_options : Option LimitOptions
  pub draws_salt : Bool
  pub is_recommended : Bool
  pub strips_newline : Bool
  pub is_raw : Bool
  pub shows_progress : Bool
  pub hash_file : Option (List ℕ)

-- no options
abbrev pub no_options : Options
no_options = record {
  limit_options = None;
  draws_salt = false;
  is_recommended = false;
  strips_newline = false;
  is_raw = false;
  shows_progress = false;
  hash_file = None;
}

-- the options with an option added whose value follows its first `=`
abbrev pub with_value : Options → List ℕ → Option Options
with_value o word =
    let name = before_first (λ b. b == 61) word in
    let value = after_first (λ b. b == 61) word in
    if nat_lt (position_or_len (λ b. b == 61) word) (length word) then (
    if bytes_eq name (codes "--hash-file") then Some (record o { hash_file = Some value })
    else option_map (λ limits. record o { limit_options = Some limits }) (with_number (unwrap_or o.limit_options defaults) name value)
    ) else None

-- the options with this word's option added; a later one overrides an earlier one
unfoldable pub with_option : Options → List ℕ → Option Options
with_option o word =
    if bytes_eq word (codes "--default-limits") then Some (record o { limit_options = Some defaults })
    else if bytes_eq word (codes "--generate-salt") then Some (record o { draws_salt = true })
    else if bytes_eq word (codes "--recommended") then Some (record o { is_recommended = true; draws_salt = true })
    else if bytes_eq word (codes "--strip-newline") then Some (record o { strips_newline = true })
    else if bytes_eq word (codes "--raw") then Some (record o { is_raw = true })
    else if bytes_eq word (codes "--progress") then Some (record o { shows_progress = true })
    else with_value o word

-- the options that come first, and the words after them
unfoldable pub options_after : Options → List (List ℕ) → Options × List (List ℕ)
options_after options [] = (options, [])
options_after options (word ∷ words) =
    option_map_or (λ next. options_after next words) (with_option options word) (options, word ∷ words)

-- the options that come first, and the words after them
abbrev pub options_of : List (List ℕ) → Options × List (List ℕ)
options_of words = options_after no_options words

-- a text without the newline at its end, which is one `\n` or `\r\n`
abbrev pub without_newline : List ℕ → List ℕ
without_newline text =
    if ends_with nat_eq text (codes "\r\n") then take (length text - 2) text
    else if ends_with nat_eq text (codes "\n") then take (length text - 1) text
    else text

-- the password of an input
abbrev pub password_of : Bool → List ℕ → List ℕ
password_of strips_newline input = if strips_newline then without_newline input else input
