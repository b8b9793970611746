-- The examples, by computing, and the first of them as a witness. Assumes nothing.
use mathlib.Core.Path.{refl}
use Rattle.month_contents.specs.Below.{some_below, first_below, sum_below}
use Rattle.month_contents.specs.Contents.{contents_wrong, section_of}
use Rattle.month_contents.specs.Written.{entry, two_sections}
use Rattle.month_contents.specs.Examples.{three, ContentsExamples, LaidMet}
use Rattle.month_contents.proofs.Laid.{end_to_end}

pub contents-examples : ContentsExamples
unfolding some_below first_below sum_below contents_wrong section_of
contents-examples =
    record {
      in_order = refl;
      listed-in-turn = refl;
      laid-in-turn = refl;
      empty-first = refl;
      empty-last = refl;
      both-empty = refl;
      empty-within = refl;
      empty-past-the-end = refl;
      one = refl;
      none = refl;
      gap = refl;
      gap-first = refl;
      left_over = refl;
      overlapping = refl;
      overlapping-and-gap = refl;
      wrapping = refl;
      wrapping-empty = refl;
      in-the-contents = refl;
      past_the_end = refl;
      twice = refl;
      kind_0 = refl;
      kind_3 = refl;
      three-bytes = refl;
      cut = refl;
      most-sections = refl;
      found = refl;
      found_first = refl;
      missing = refl;
    }

pub laid-met : LaidMet
laid-met = end_to_end (two_sections (entry 1 28 2) (entry 2 30 1) three) contents-examples.in_order
