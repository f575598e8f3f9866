use Rattle.std.proofs.Common.{◌≡◌, length, map, string_bytes}
use Rattle.scrypt_commands.specs.{no_options, options_after, options_view}
use Rattle.scrypt_commands.proofs.options.parse_options.Given as goal

-- what is left has the options that are left
abbrev pub invariant-loop-word : goal.invariant-loop-word
invariant-loop-word l = options_after (options_view l.options) (map string_bytes l.rest) ≡ options_after no_options (map string_bytes l.words)

abbrev pub decreases-loop-word : goal.decreases-loop-word
decreases-loop-word l = length l.rest
