-- The cost of a derivation.
use Rattle.std.specs.Prelude.{ℕ, ◌-◌, ◌^◌, min}
use Rattle.scrypt.specs.Terms.{Parameters, buffers_bytes, chunks_bytes, scratch_words, table_words, tables_within, work}
use Rattle.scrypt_c.specs.declared.cost.Cost.{Cost}

-- the cost of a derivation with these parameters and a key of `key_len` bytes, in buffers of up to
-- `max_mem` bytes
abbrev pub cost_of : ℕ → Parameters → ℕ → Cost
cost_of max_mem c key_len = record {
  log_n = c.log_n;
  r = c.r;
  p = c.p;
  key_len = key_len;
  tables = tables_within max_mem c;
  chunks_len = chunks_bytes c.r c.p;
  table_len = table_words c.log_n c.r;
  scratch_len = scratch_words c.r;
  bytes = min (buffers_bytes c.log_n c.r c.p) (2 ^ 64 - 1);
  work = min (work c.log_n c.r c.p) (2 ^ 64 - 1);
}
