-- `writing::put_digits` meets its contract: the digits before the last one are those of a tenth of the number, and with the last digit
-- they are one text.
use native.Mathlib.Omega.{arith}
use Rattle.base_bytes.proofs.PutLaws.{wrote_then, wrote_as}
use Rattle.text_words.proofs.NumberLaws.{text-one, text-next}
use Rattle.text_words.proofs.writing.+put_digits.Goals as goal

pub returns-then-n-lt10 : goal.returns-then-n-lt10
returns-then-n-lt10 t c = wrote_as _ (text-one _ _ (omega arith)) c.one.ensures

pub returns : goal.returns
returns t c = wrote_as _ (text-next _ (omega arith) (omega arith)) (wrote_then c.put_digits-place.ensures c.one-2.ensures)
