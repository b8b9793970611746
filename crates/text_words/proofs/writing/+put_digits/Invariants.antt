-- `writing::put_digits` calls itself with the number that the digits before the last one spell, which is the measure.
use Rattle.text_words.proofs.writing.+put_digits.Given as goal

abbrev pub decreases-put_digits : goal.decreases-put_digits
decreases-put_digits l = l.n
