-- A written command is read back, so that the rows of reading pass and what is asked is what was written; an accepted command passed those
-- rows, so that it was read, and what is read was so written. Assumes nothing.
use mathlib.Core.Path.{◌≡◌, refl, sym, ap, ◌∙◌}
use Prim.Native.Nat.{ℕ, ◌≤◌}
use native.Mathlib.Omega.{arith}
use mathlib.Core.List.{List, [], ◌∷◌}
use mathlib.Core.Option.{some}
use mathlib.Core.Bool.{Bool, true, false, not, cond, false≢true}
use lib.ListN.{length}
use borrow.Author.Tests.{ltb-false, leb-true}
use Rattle.std.specs.Prelude.{Ok, Err}
use Rattle.base_bytes.specs.declared.Part.{Part}
use Rattle.base_bytes.specs.Bytes.{part_of}
use Rattle.base_status.specs.StatusWords.{is_done}
use Rattle.base_status.specs.Rows.{Row, row, word_of}
use Rattle.base_status.specs.declared.Status.{Status}
use Rattle.base_status.specs.declared.Status.TheVariants.{Unsound, LengthWrong, ClassWrong, InstructionWrong, ParametersWrong, DataWrong, Done}
use Rattle.card_isdp.specs.Sizes.{least_aid}
use Rattle.card_isdp.proofs.Bools.{and_l}
use Rattle.card_record.specs.Sound.{sound}
use Rattle.card_record.specs.Answers.{Outcome, outcome, sound_row, settle}
use Rattle.card_record.specs.declared.Card.{Card}
use Rattle.card_record.proofs.Outcomes.{decided}
use Rattle.read_tlv.specs.Encoding.{Bytes}
use Rattle.read_fields.specs.Grammar.{Wanted, wanted_of}
use Rattle.read_fields.specs.Places.{Placed, RequestIn}
use Rattle.read_fields.specs.declared.request.Request.{Request}
use Rattle.read_fields.specs.declared.request.Request.TheVariants as request
use Rattle.read_command.specs.Grammar.{Encodes, read_as}
use Rattle.read_command.specs.Reading.{read_of, Reading}
use Rattle.read_frame.specs.Framing.{length_wrong, class_wrong, instruction_wrong, parameters_wrong, shape_wrong}
use Rattle.read_command.specs.Requests.{data_wrong}
use Rattle.read_command.proofs.Answers.{passes-done, done-read, refused-word}
use Rattle.read_command.proofs.Within.{read-inside}
use Rattle.read_command.proofs.ReadBack.{command-back}
use Rattle.read_command.proofs.Written.{command-written}
use Rattle.rule_steps.specs.Asked.{Asked, Asked.on, Act.status}
use Rattle.rule_steps.specs.Conditions.{card_rows}
use Rattle.rule_steps.specs.Steps.{step_of, response_of, asked_work, success_of}
use Rattle.rule_run.proofs.Kept.{part-ok, rows-accepted}
use Rattle.rule_run.specs.Calls.{Call.Command, request_asks, asked}
use Rattle.rule_run.specs.Table.{least_buffer, rows_after}
use Rattle.rule_run.specs.Step.{step, step_by, work}
use Rattle.rule_run.proofs.Readings.{not-read, asks_read, word_read}
use Rattle.proof_demands.specs.Written as statement
use Rattle.proof_demands.specs.Written.{listed_asks, wanted_asks, of_reading}
use Rattle.rule_run.proofs.Words.{word-is, done-as}

-- an AID is not empty
listed-one : (who : List ℕ) (life shown : Bool) → 1 ≤ length who → on who (status life shown) ≡ listed_asks false who life shown
listed-one [] life shown h = absurd (omega arith)
listed-one (first ∷ rest) life shown h = refl

placed-length : (s : List ℕ) (part : Part) → Placed s part → 1 ≤ length (part_of s part)
placed-length s part p =
    let h = leb-true least_aid (length (part_of s part)) (and_l _ _ (part-ok s part p)) in
    omega arith

asks-same : (verdict : ℕ) (s : List ℕ) (capacity : ℕ) (r : Request) → RequestIn s capacity r → request_asks verdict s r ≡ wanted_asks verdict (wanted_of s r)
asks-same verdict s capacity (request.Create part quota) p = refl
asks-same verdict s capacity (request.Enable part) p = refl
asks-same verdict s capacity (request.Disable part) p = refl
asks-same verdict s capacity (request.SetFallBack part) p = refl
asks-same verdict s capacity (request.Delete part) p = refl
asks-same verdict s capacity (request.MasterDelete part) p = refl
asks-same verdict s capacity (request.Confirm number) p = refl
asks-same verdict s capacity (request.GetStatusOfAll next tags) p = refl
asks-same verdict s capacity (request.GetStatusOfOne part tags) p = listed-one (part_of s part) tags.life tags.fall_back (placed-length s part p)
asks-same verdict s capacity request.GetData p = refl

-- the request that was read
read_some : (s : List ℕ) (x : Reading) (w : Wanted) → read_as s x ≡ some w → (r : Request) × ((Ok r ≡ x) × (wanted_of s r ≡ w))
read_some s (Ok r) w q = (r, (refl, cc))
read_some s (Err word) w q = let z : ◌≡◌ {A = ℕ} 0 1 = cc in absurd (omega arith)

pub after-sound : (c : Card) (success : Status) (rows more : List Row) → word_of success rows ≡ word_of success more → word_of success (sound_row c ∷ rows) ≡ word_of success (sound_row c ∷ more)
unfolding word_of
after-sound c success rows more e = ap (cond (not (sound c)) Unsound) e

-- the row 6F 00 is passed
pub past-sound : (c : Card) (success : Status) (rows : List Row) → sound c ≡ true → word_of success (sound_row c ∷ rows) ≡ word_of success rows
unfolding word_of
past-sound c success rows e = rw e

-- what a written command asks is what was written
module _ (c : Card) (verdict : ℕ) (s : List ℕ) (room : ℕ) (w : Wanted) (h : least_buffer ≤ room) (encoded : Encodes c.capacity w s) where
  was_read : (r : Request) × ((Ok r ≡ read_of s c.capacity) × (wanted_of s r ≡ w))
  was_read = read_some s (read_of s c.capacity) w (command-back s c.capacity w encoded)

  pub written-asks : asked c (Command verdict s room) ≡ wanted_asks verdict w
  written-asks =
      let r = was_read in
      asks_read c verdict s room h r.0 r.1.0
      ∙ asks-same verdict s c.capacity r.0 (read-inside s c.capacity r.0 r.1.0)
      ∙ ap (wanted_asks verdict) r.1.1

pub written-answered : statement.WrittenAnswered
unfolding step_by
written-answered c verdict s room w h encoded =
    let r = was_read c verdict s room w h encoded in
    let word = after-sound c (work c (Command verdict s room)).success (rows_after c (Command verdict s room)) (card_rows c (asked c (Command verdict s room))) (word_read c verdict s room h r.0 r.1.0) in
    ap (λ (x : Status). settle c x (step_of c (asked c (Command verdict s room))) (response_of c (asked c (Command verdict s room)))) word
    ∙ ap (λ (x : Asked). outcome c (asked_work c x)) (written-asks c verdict s room w h encoded)

-- on a sound card its word is that of the card's rows
module _ (c : Card) (verdict : ℕ) (s : List ℕ) (room : ℕ) (wanted : Wanted) (e : sound c ≡ true) (h : least_buffer ≤ room) (encoded : Encodes c.capacity wanted s) where
  abbrev asks : Asked
  asks = wanted_asks verdict wanted

  pub written-word : (step c (Command verdict s room)).status ≡ word_of (success_of c asks) (card_rows c asks)
  written-word =
      ap (λ (o : Outcome). o.status) (written-answered c verdict s room wanted h encoded)
      ∙ decided c (word_of (success_of c asks) (sound_row c ∷ card_rows c asks)) (step_of c asks) (response_of c asks)
      ∙ past-sound c (success_of c asks) (card_rows c asks) e

-- one that was read was written
read-written : (s : List ℕ) (capacity : ℕ) (r : Request) → Bytes s → Ok r ≡ read_of s capacity → Encodes capacity (wanted_of s r) s
read-written s capacity r b q = command-written s capacity (wanted_of s r) b (ap (read_as s) (sym q))

pub accepted-written : statement.AcceptedWritten
accepted-written c verdict s room b e =
    let call = Command verdict s room in
    let p = rows-accepted c call (work c call).success (done-as c call true e) in
    let r = done-read s c.capacity (passes-done s c.capacity record {
      length_right = p.length;
      class_right = p.class;
      instruction_right = p.instruction;
      parameters_right = p.parameters;
      shape_right = p.shape;
      data_right = p.values;
    }) in
    (wanted_of s r.0, (ltb-false room least_buffer p.buffer, read-written s c.capacity r.0 b r.1))

-- the words of the rows of reading
pub reading-word : (a b c d e f : Bool) → is_done (word_of Done (row a LengthWrong ∷ row b ClassWrong ∷ row c InstructionWrong ∷ row d ParametersWrong ∷ row e LengthWrong ∷ row f DataWrong ∷ [])) ≡ false
    → of_reading (word_of Done (row a LengthWrong ∷ row b ClassWrong ∷ row c InstructionWrong ∷ row d ParametersWrong ∷ row e LengthWrong ∷ row f DataWrong ∷ [])) ≡ true
unfolding word_of
reading-word true b c d e f h = refl
reading-word false true c d e f h = refl
reading-word false false true d e f h = refl
reading-word false false false true e f h = refl
reading-word false false false false true f h = refl
reading-word false false false false false true h = refl
reading-word false false false false false false h = absurd (false≢true (sym h))

module _ (c : Card) (verdict : ℕ) (s : List ℕ) (room : ℕ) (b : Bytes s) (e : sound c ≡ true) (h : least_buffer ≤ room) (none : (w : Wanted) → Encodes c.capacity w s → ⊥) where
  refused-case : (x : Reading) → x ≡ read_of s c.capacity → of_reading (step c (Command verdict s room)).status ≡ true
  refused-case (Ok r) q = absurd (none (wanted_of s r) (read-written s c.capacity r b q))
  refused-case (Err word) q =
      let r = refused-word s c.capacity word q in
      ap of_reading (word-is c (Command verdict s room) ∙ past-sound c (work c (Command verdict s room)).success (rows_after c (Command verdict s room)) e ∙ (not-read c verdict s room h word q).0 ∙ r.0)
      ∙ reading-word (length_wrong s) (class_wrong s) (instruction_wrong s) (parameters_wrong s) (shape_wrong s) (data_wrong s c.capacity) (ap is_done (sym r.0) ∙ r.1)

pub unwritten-refused : statement.UnwrittenRefused
unwritten-refused c verdict s room b e h none = refused-case c verdict s room b e h none (read_of s c.capacity) refl

pub one-meaning : statement.OneMeaning
one-meaning s capacity v w e f = let q = command-back s capacity v e in let r = command-back s capacity w f in cc
