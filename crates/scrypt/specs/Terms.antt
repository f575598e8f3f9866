-- Definitions for clauses and proofs, from one place: each line names the file that has them.
-- `stored_parts.rt` names these files itself: its struct has ghost fields, so the struct would import this file, which
-- imports the struct.
pub use Rattle.password_hash.specs.Refusal.{Algorithm, BufferTooShort, EncodingInvalid, KeyTooShort, OutOfMemory, OutputSize}
pub use Rattle.password_hash.specs.Refusal.{ParamInvalid, ParamsInvalid, PasswordInvalid, Refusal, TooCostly, Version}
pub use Rattle.password_hash.specs.Refusal.{refusal, with_refusal}
pub use Rattle.password_hash.specs.Crypt64.{Crypt64, IsBytes, IsCrypt64, encoded_len, with_digit}
unfoldable pub use Rattle.password_hash.specs.Crypt64.{bytes_of_number, crypt64_of, decoded, letter, letter_value}
unfoldable pub use Rattle.password_hash.specs.Crypt64.{letters_of, number_of}
pub use Rattle.password_hash.specs.Mcf.{IsField, IsMcf, IsMcfText}
unfoldable pub use Rattle.password_hash.specs.Mcf.{fields_of}
pub use Rattle.password_hash.specs.Phc.{IsHashText, IsKey, IsSalt, base64, hash_text}
pub use Rattle.scrypt_kernel.specs.Words.{bytes_of, part, words_of, xor_words}
pub use Rattle.scrypt_kernel.specs.Pbkdf2.{max_output_len, pbkdf2, pbkdf2_block}
pub use Rattle.scrypt_kernel.specs.Pbkdf2Cost.{end_cost, pbkdf2_cost}
pub use Rattle.scrypt_kernel.specs.RoMixCost.{ro_mix_cost, scratch_words, table_words, thin_scratch_words}
pub use Rattle.scrypt_kernel.specs.Count.{AreCompressed, AreCounted, AreCountedAs, AreHashed}
pub use Rattle.scrypt.specs.Key.{mixed_b, mixed_chunk, mixed_chunks}
unfoldable pub use Rattle.scrypt.specs.Key.{derived_key}
pub use Rattle.scrypt.specs.ChunkOrder.{NamesEachOnce, mixed_in_order, with_chunk_mixed}
pub use Rattle.scrypt.specs.Accepted.{Parameters, parameters_eq, recommended_parameters, without_len}
unfoldable pub use Rattle.scrypt.specs.Accepted.{are_accepted, is_output_len, is_stored_len}
pub use Rattle.scrypt.specs.Cost.{chunks_bytes, cost, hash_cost, lengths_cost, thin_chunks_cost, thin_cost}
unfoldable pub use Rattle.scrypt.specs.Cost.{extra_rows_of_chunks}
pub use Rattle.scrypt.specs.Limits.{AreMostTables, SufficeFor, buffers_bytes, limits_for_new, tables_bytes, work}
unfoldable pub use Rattle.scrypt.specs.Limits.{are_within, tables_within}
pub use Rattle.scrypt.specs.KeyOfParams.{IsDerived, KeyIsRefused, cost_by, key_by}
pub use Rattle.scrypt.specs.Hashing.{call_refusal, is_named_or_none, key_len_or_default}
pub use Rattle.scrypt.specs.Reading.{◌and_then◌, IsOfText, IsReadAsMade, IsVerdict, NamesNoPassword, Stored, chunks_of}
pub use Rattle.scrypt.specs.Reading.{let_in, made_stored, mapped, mixed_of, verdict, verify_cost, weaker}
unfoldable pub use Rattle.scrypt.specs.Reading.{checked, is_below, is_right}
pub use Rattle.scrypt.specs.Decoy.{decoy_reading, no_key}
pub use Rattle.scrypt.specs.InBuffers.{IsCopiedTo}
unfoldable pub use Rattle.scrypt.specs.InBuffers.{are_enough}
pub use Rattle.scrypt.specs.Workspace.{IsDone, IsLeft, IsRestKept, Workspace, cores_in, hashed_in, tables_used}
pub use Rattle.scrypt.specs.Workspace.{verdict_in, workspace_of}
unfoldable pub use Rattle.scrypt.specs.Workspace.{interleaved_chunks}
pub use Rattle.scrypt.specs.PhcParams.{output_len_of, params_of_pairs, params_with_len, written_pairs}
unfoldable pub use Rattle.scrypt.specs.PhcParams.{read_pairs}
pub use Rattle.scrypt.specs.PhcHash.{phc_hash, read_phc, salt_refusal}
unfoldable pub use Rattle.scrypt.specs.PhcHash.{is_salt_len, made_phc, phc_params}
pub use Rattle.scrypt.specs.McfParams.{five_letter_number, params_letters, params_text}
unfoldable pub use Rattle.scrypt.specs.McfParams.{field_params}
pub use Rattle.scrypt.specs.McfHash.{IsMcfHashText, made_key, made_text_len, mcf_id, mcf_text, read_fields, read_key}
pub use Rattle.scrypt.specs.McfHash.{read_parts}
unfoldable pub use Rattle.scrypt.specs.McfHash.{made_mcf, read_mcf}
pub use Rattle.scrypt.specs.StoredHash.{Formatted, McfText, PhcHash, key_len_or_zero, params_and_len, whole}
unfoldable pub use Rattle.scrypt.specs.StoredHash.{formatted, is_mcf_text, is_stored_text, params_reading, reading}
pub use Rattle.scrypt.specs.TextOfKey.{IsTextOfKey, parts_of_key}
pub use Rattle.scrypt.specs.WithinLimits.{limited_refusal, with_limited_refusal, within}
pub use Rattle.scrypt.specs.Logins.{AreLeft, Attempt, IsAlone, all_cost, all_of, attempt_of, attempts, bytes_if_ok}
pub use Rattle.scrypt.specs.Logins.{chunks_cost, compare_cost, cores_on, cost_if_ok, count_of, hashed_on, params_of}
pub use Rattle.scrypt.specs.Logins.{reading_of, reading_of_hash, shared, verdict_on, verify_cores}
unfoldable pub use Rattle.scrypt.specs.Logins.{with_more}
pub use Rattle.scrypt.specs.PublicPart.{AreSameAfter, public_hash, public_part}
pub use Rattle.scrypt.specs.Stepping.{AreMixable, AreMixed, CanGoOn, IsNext, IsStopped, IsUnderWay, IsWithin, WentOn}
pub use Rattle.scrypt.specs.Stepping.{first_b, lacking, max_step, mixes_done, words_from}
pub use Rattle.scrypt.specs.Buffers.{AreFor, KeepLens, workspace_in}
pub use Rattle.scrypt.specs.Mixing.{HasTables, IsKept, IsReady, IsSpent, IsWidth}
unfoldable pub use Rattle.scrypt.specs.Mixing.{group_by, next_group}
pub use Rattle.scrypt.specs.StoredKey.{key_bytes}
pub use Rattle.scrypt.specs.StoredParts.{IsReadAs, stored}
