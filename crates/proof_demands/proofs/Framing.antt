-- The first seven rows of the table in numbers: the word of a table by its conditions, one by one, and the conditions by the laws of framing.
-- What follows them is one of the later words, by the first of them that holds.
use mathlib.Core.Path.{◌≡◌, refl, ap, ◌∙◌}
use mathlib.Core.List.{List, [], ◌∷◌}
use mathlib.Core.Bool.{Bool, true, false, not, cond, false≢true}
use lib.Dec.{ltb, eqb}
use Rattle.base_bytes.specs.Bytes.{byte}
use Rattle.base_status.specs.StatusWords.{is_done, number_of}
use Rattle.base_status.specs.Rows.{Row, row, word_of}
use Rattle.base_status.specs.declared.Status.{Status}
use Rattle.base_status.specs.declared.Status.TheVariants.{Unsound, BufferShort, LengthWrong, ClassWrong, InstructionWrong, ParametersWrong, DataWrong, StateWrong, NotHeld, PolicyForbids, VerdictWrong, NoRoom, More, Done}
use Rattle.card_record.specs.Sound.{sound}
use Rattle.card_record.specs.declared.Card.{Card}
use Rattle.read_frame.specs.Framing.{length_wrong, class_wrong, instruction_wrong, parameters_wrong, shape_wrong}
use Rattle.read_frame.specs.Classes.{is_among}
use Rattle.read_frame.specs.Headers.{is_shaped}
use Rattle.read_frame.proofs.Headers.{header-bytes, class-in-numbers, shape-in-numbers}
use Rattle.read_operator.specs.Reading.{not_store_data}
use Rattle.read_operator.proofs.Words.{two-rows}
use Rattle.rule_steps.specs.Conditions.{change_wrong, target_missing, already_held, state_wrong, policy_forbids, verdict_wrong, no_room}
use Rattle.rule_steps.specs.Steps.{success_of}
use Rattle.rule_steps.proofs.Successes.{success-done}
use Rattle.rule_run.specs.Calls.{Call, Call.Command, Call.PolicyUpdate, asked}
use Rattle.rule_run.specs.Table.{values_wrong}
use Rattle.rule_run.proofs.Words.{word-is}
use Rattle.proof_demands.specs.Framing.{later_words, FramingAnswered}

-- ---- the word of a table by its conditions

abbrev later_rows : Card → Call → List Row
later_rows c call =
    row (values_wrong c call) DataWrong
    ∷ row (change_wrong c (asked c call)) StateWrong
    ∷ row (target_missing c (asked c call)) NotHeld
    ∷ row (already_held c (asked c call)) DataWrong
    ∷ row (state_wrong c (asked c call)) StateWrong
    ∷ row (policy_forbids c (asked c call)) PolicyForbids
    ∷ row (verdict_wrong (asked c call)) VerdictWrong
    ∷ row (no_room c (asked c call)) NoRoom
    ∷ []

first_rows : (u b l k i p h : Bool) (success : Status) (rest : List Row)
    → number_of
    (word_of success
    (row (not u) Unsound ∷ row b BufferShort ∷ row l LengthWrong ∷ row k ClassWrong ∷ row i InstructionWrong ∷ row p ParametersWrong ∷ row h LengthWrong ∷ rest))
    ≡ cond u (cond b 0x6F02 (cond l 0x6700 (cond k 0x6E00 (cond i 0x6D00 (cond p 0x6A86 (cond h 0x6700 (number_of (word_of success rest)))))))) 0x6F00
unfolding word_of
first_rows false b l k i p h success rest = refl
first_rows true true l k i p h success rest = refl
first_rows true false true k i p h success rest = refl
first_rows true false false true i p h success rest = refl
first_rows true false false false true p h success rest = refl
first_rows true false false false false true h success rest = refl
first_rows true false false false false false true success rest = refl
first_rows true false false false false false false success rest = refl

done-later : (w : Status) → is_done w ≡ true → is_among (number_of w) later_words ≡ true
unfolding is_among
done-later Unsound e = absurd (false≢true e)
done-later BufferShort e = absurd (false≢true e)
done-later LengthWrong e = absurd (false≢true e)
done-later ClassWrong e = absurd (false≢true e)
done-later InstructionWrong e = absurd (false≢true e)
done-later ParametersWrong e = absurd (false≢true e)
done-later DataWrong e = absurd (false≢true e)
done-later StateWrong e = absurd (false≢true e)
done-later NotHeld e = absurd (false≢true e)
done-later PolicyForbids e = absurd (false≢true e)
done-later VerdictWrong e = absurd (false≢true e)
done-later NoRoom e = absurd (false≢true e)
done-later More e = refl
done-later Done e = refl

later_rows_lem : (d o n a s p v r : Bool) (success : Status) → is_done success ≡ true
    → is_among
    (number_of
    (word_of success
    (row d DataWrong ∷ row o StateWrong ∷ row n NotHeld ∷ row a DataWrong ∷ row s StateWrong ∷ row p PolicyForbids ∷ row v VerdictWrong ∷ row r NoRoom ∷ [])))
    later_words
    ≡ true
unfolding word_of is_among
later_rows_lem true o n a s p v r success e = refl
later_rows_lem false true n a s p v r success e = refl
later_rows_lem false false true a s p v r success e = refl
later_rows_lem false false false true s p v r success e = refl
later_rows_lem false false false false true p v r success e = refl
later_rows_lem false false false false false true v r success e = refl
later_rows_lem false false false false false false true r success e = refl
later_rows_lem false false false false false false false true success e = refl
later_rows_lem false false false false false false false false success e = done-later success e

later : (c : Card) (call : Call) → is_among (number_of (word_of (success_of c (asked c call)) (later_rows c call))) later_words ≡ true
later c call =
    later_rows_lem (values_wrong c call) (change_wrong c (asked c call)) (target_missing c (asked c call)) (already_held c (asked c call)) (state_wrong c (asked c call)) (policy_forbids c (asked c call)) (verdict_wrong (asked c call)) (no_room c (asked c call))
    (success_of c (asked c call)) (success-done c (asked c call))

-- ---- a command and an update

pub framing-answered : FramingAnswered
unfolding length_wrong not_store_data
framing-answered =
    record {
      command = λ c verdict s room b.
          let call = Command verdict s room in
          let rest = number_of (word_of (success_of c (asked c call)) (later_rows c call)) in
          record {
            otherwise = rest;
            later = later c call;
            word =
                ap number_of (word-is c call)
                ∙ first_rows (sound c) (ltb room 256) (length_wrong s) (class_wrong s) (instruction_wrong s) (parameters_wrong s) (shape_wrong s) (success_of c (asked c call)) (later_rows c call)
                ∙ rw (class-in-numbers s b, header-bytes.known s b, header-bytes.right s b, shape-in-numbers s) refl;
          };
      update = λ c speaker s room b.
          let call = PolicyUpdate speaker s room in
          let rest = number_of (word_of (success_of c (asked c call)) (later_rows c call)) in
          record {
            otherwise = rest;
            later = later c call;
            word =
                ap number_of (word-is c call)
                ∙ first_rows (sound c) (ltb room 256) (length_wrong s) (class_wrong s) (not_store_data s) (parameters_wrong s) (shape_wrong s) (success_of c (asked c call)) (later_rows c call)
                ∙ rw (class-in-numbers s b, header-bytes.right s b, shape-in-numbers s)
                (rw (two-rows (byte s 1) (byte s 2) (byte s 3) (cond (not (is_shaped s)) 0x6700 rest) (eqb (byte s 1) 0xE2) refl) refl);
          };
    }
