-- docs/EVENTS.md from the writer's side: a file written of a fresh card's inputs and events, its two sections listed in either order and laid
-- in either order. What is written is accepted and read as what was written, and every accepted file was so written.
use Rattle.std.specs.Prelude.{ℕ, ◌+◌, ◌≤◌, ◌<◌, ◌≡◌, List, [], ◌∷◌, ◌++◌, Bool, true, false, length, replicate}
use Rattle.base_bytes.specs.Bytes.{four_bytes}
use Rattle.base_status.specs.StatusWords.{is_done}
use Rattle.read_tlv.specs.Encoding.{Bytes}
use Rattle.month_contents.specs.Contents.{fresh_kind}
use Rattle.month_contents.specs.Written.{entry, two_sections}
use Rattle.month_events.specs.Events.{Event}
use Rattle.month_events.specs.Written.{encode_events, AllWritable}
use Rattle.rule_run.specs.Inputs.{Inputs, fresh_of}
use Rattle.month_file.specs.Inputs.{inputs_of}
use Rattle.month_file.specs.File.{body_of, file_events, Verdict.Accepted, verdict_of}

-- "EID (16 bytes), capacity, quota, used, volatile (4 bytes each), and the AID, which is all the rest"
abbrev pub encode_inputs : Inputs → List ℕ
encode_inputs x =
    x.eid ++ (four_bytes x.capacity ++ (four_bytes x.quota ++ (four_bytes x.used ++ (four_bytes x.volatile ++ x.aid))))

-- the file of two bodies: whether the inputs are listed first, and whether they are laid first; the contents end at byte 28
abbrev pub file_of : Bool → Bool → List ℕ → List ℕ → List ℕ
file_of true true f b = two_sections (entry 1 28 (length f)) (entry 2 (28 + length f) (length b)) (f ++ b)
file_of false true f b = two_sections (entry 2 (28 + length f) (length b)) (entry 1 28 (length f)) (f ++ b)
file_of true false f b = two_sections (entry 1 (28 + length b) (length f)) (entry 2 28 (length b)) (b ++ f)
file_of false false f b = two_sections (entry 2 28 (length b)) (entry 1 (28 + length b) (length f)) (b ++ f)

abbrev pub written : Bool → Bool → Inputs → List Event → List ℕ
written listed_first laid_first x es = file_of listed_first laid_first (encode_inputs x) (encode_events es)

-- inputs that can be written, and of which a card is made
pub record InputsWritable (x : Inputs) : Type 0 where
  pub eid-16 : length x.eid ≡ 16
  pub eid-octets : Bytes x.eid
  pub aid-octets : Bytes x.aid
  pub capacity-four : x.capacity < 4294967296
  pub quota-four : x.quota < 4294967296
  pub used-four : x.used < 4294967296
  pub volatile-four : x.volatile < 4294967296
  pub taken : is_done (fresh_of x).status ≡ true

pub record CanBeWritten (x : Inputs) (es : List Event) : Type 0 where
  pub inputs : InputsWritable x
  pub events : AllWritable es

-- the file is accepted, and says these inputs and these events
pub record ReadAs (s : List ℕ) (x : Inputs) (es : List Event) : Type 0 where
  pub accepted : verdict_of s ≡ Accepted
  pub inputs : inputs_of (body_of s fresh_kind) ≡ x
  pub events : file_events s ≡ es

abbrev pub ReadBack : Type 0
ReadBack =
    (listed_first laid_first : Bool) (x : Inputs) (es : List Event)
    → CanBeWritten x es
    → length (written listed_first laid_first x es) ≤ 65536
    → ReadAs (written listed_first laid_first x es) x es

-- the file was written of these inputs and events, in some order
pub record WrittenFrom (s : List ℕ) (x : Inputs) (es : List Event) : Type 0 where
  pub listed_first : Bool
  pub laid_first : Bool
  pub bytes : s ≡ written listed_first laid_first x es
  pub can : CanBeWritten x es
  pub size : length s ≤ 65536

abbrev pub WrittenBack : Type 0
WrittenBack = (s : List ℕ) → Bytes s → verdict_of s ≡ Accepted → WrittenFrom s (inputs_of (body_of s fresh_kind)) (file_events s)

-- the hypotheses can be met: inputs with this quota, so many used bytes and an AID of so many bytes, the capacity 100; and one tick
abbrev pub sample : ℕ → ℕ → ℕ → Inputs
sample quota used n =
    record { eid = replicate 16 0xE1; capacity = 100; quota = quota; used = used; volatile = 7; aid = replicate n 0xA0 }

abbrev pub GrammarMet : Type 0
GrammarMet = CanBeWritten (sample 50 0 5) (record { kind = 5; bytes = [] } ∷ [])
