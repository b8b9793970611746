-- The word that reading an update gives is that of its rows. Its rows are framing's but for the instruction: of the headers written out those of E2 are left.
use Prim.Native.Nat.{ℕ}
use mathlib.Core.Path.{◌≡◌, refl, ap, ◌∙◌}
use mathlib.Core.List.{List, [], ◌∷◌}
use mathlib.Core.Bool.{Bool, true, false, not, cond}
use lib.Dec.{eqb}
use borrow.Author.Tests.{eqb-true}
use Rattle.base_bytes.specs.Bytes.{byte}
use Rattle.base_status.specs.StatusWords.{number_of}
use Rattle.base_status.specs.Rows.{word_of}
use Rattle.base_status.specs.declared.Status.TheVariants as status
use Rattle.read_frame.specs.Framing.{length_wrong, class_wrong, parameters_wrong, shape_wrong}
use Rattle.read_frame.specs.Classes.{is_among}
use Rattle.read_frame.specs.Headers.{store_data_headers, printed_headers, has_header, is_shaped, field_word}
use Rattle.read_frame.proofs.Answers as answers
use Rattle.read_frame.proofs.Headers as headers
use Rattle.read_operator.specs.Field.{policy_of}
use Rattle.read_operator.specs.Reading.{not_store_data, policy_wrong, update_rows, update_of, update_word}
use Rattle.read_operator.specs.Words.{UpdateWords}

rows-word : (s : List ℕ) → update_word (update_of s) ≡ word_of status.Done (update_rows s)
unfolding update_of policy_wrong
rows-word s = answers.rows-word (length_wrong s) (class_wrong s) (not_store_data s) (parameters_wrong s) (shape_wrong s) (policy_of s)

-- past the row of the instruction it is E2, and the headers of the others are not met
pub two-rows : (i p q w : ℕ) (e2 : Bool) → eqb i 0xE2 ≡ e2
    → cond (not e2) 0x6D00 (cond (not (has_header i p q printed_headers)) 0x6A86 w)
    ≡ cond (not (is_among i (0xE2 ∷ []))) 0x6D00 (cond (not (has_header i p q (store_data_headers []))) 0x6A86 w)
unfolding is_among has_header
two-rows i p q w true e = rw (eqb-true i 0xE2 e) refl
two-rows i p q w false e = rw e refl

pub update-words : UpdateWords
unfolding not_store_data length_wrong
update-words s b =
    ap number_of (rows-word s)
    ∙ headers.rows-word (length_wrong s) (class_wrong s) (not_store_data s) (parameters_wrong s) (shape_wrong s) (policy_wrong s)
    ∙ rw (headers.class-in-numbers s b, (headers.header-bytes).right s b, headers.shape-in-numbers s)
    (rw (two-rows (byte s 1) (byte s 2) (byte s 3) (cond (not (is_shaped s)) 0x6700 (field_word (policy_wrong s))) (eqb (byte s 1) 0xE2) refl) refl)
