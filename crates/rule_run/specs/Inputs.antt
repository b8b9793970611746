-- Document 01, 'The card': a fresh card's "inputs, all kept, are EID, AID, capacity, quota, used bytes and a volatile memory figure".
use Rattle.std.specs.Prelude.{ℕ, List}
use Rattle.card_record.specs.Answers.{Outcome}
use Rattle.card_record.specs.Fresh.{fresh_outcome}

pub record Inputs : Type 0 where
  pub eid : List ℕ
  pub aid : List ℕ
  pub capacity : ℕ
  pub quota : ℕ
  pub used : ℕ
  pub volatile : ℕ

abbrev pub fresh_of : Inputs → Outcome
fresh_of x = fresh_outcome x.eid x.aid x.capacity x.quota x.used x.volatile
