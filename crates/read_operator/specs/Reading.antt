-- 02, request 2026-06: "01's framing rows": the rows that a policy update meets while it is read, in the order of document 01's table.
-- Its own are the instruction, STORE DATA alone, and the data field; length, class, P1 and P2 and the length shape are STORE DATA's.
use Rattle.std.specs.Prelude.{ℕ, List, Bool, cond, not, eqb, Result, Err, ok_or}
use Rattle.base_bytes.specs.Bytes.{byte}
use Rattle.base_status.specs.StatusWords.{is_done}
use Rattle.base_status.specs.Rows.{Row, word_of}
use Rattle.base_status.specs.declared.Status.{Status}
use Rattle.base_status.specs.declared.Status.TheVariants as status
use Rattle.read_frame.specs.Framing.{length_wrong, class_wrong, parameters_wrong, shape_wrong}
use Rattle.read_frame.specs.Rows.{rows_by, word_read}
use Rattle.read_operator.specs.Field.{policy_of, is_policy_wrong, Policy}

-- what reading a policy update answers: the policy, or the word of its refusal
abbrev pub Update : Type 0
Update = Result ℕ Status

-- 6D 00: INS not E2; the INSTALL [for personalization] that 4.1.2.1 sends first has been done when the call arrives (decision B81)
unfoldable pub not_store_data : List ℕ → Bool
not_store_data s = not (eqb (byte s 1) 0xE2)

-- 6A 80: data field or DGI wrong
unfoldable pub policy_wrong : List ℕ → Bool
policy_wrong s = is_policy_wrong (policy_of s)

-- "01's framing rows", in its order (decision B83)
abbrev pub update_rows : List ℕ → List Row
update_rows s = rows_by (length_wrong s) (class_wrong s) (not_store_data s) (parameters_wrong s) (shape_wrong s) (policy_wrong s)

-- the policy of a field that no row refuses; a wrong one never comes here
abbrev pub update_read : Policy → Update
update_read field = ok_or field status.DataWrong

-- the word of the first row whose condition holds, otherwise the policy
unfoldable pub update_of : List ℕ → Update
update_of s =
    cond (is_done (word_of status.Done (update_rows s))) (update_read (policy_of s)) (Err (word_of status.Done (update_rows s)))

-- the word of a refusal; 90 00 where the update was read
abbrev pub update_word : Update → Status
update_word update = word_read update
