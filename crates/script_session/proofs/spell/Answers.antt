-- `script_session::spell`: the part's bytes have room, so what is spelled is all of them.
use mathlib.Core.Path.{◌≡◌, refl, ap, sym, ◌∙◌}
use Prim.Native.Nat.{ℕ}
use mathlib.Core.List.{List}
use lib.ListN.{length}
use Rattle.base_choice.proofs.Branches.{nlt! }
use Rattle.base_bytes.specs.Put.{put}
use Rattle.base_bytes.specs.Bytes.{part_of}
use Rattle.base_bytes.specs.declared.Part.{Part}
use Rattle.text_words.specs.Hex.{spelled, spelled_in}
use Rattle.script_session.proofs.spell.Goals as goal

pub returns : goal.returns
returns c = let old = c.args.out.now in
    let w = part_of c.args.s.now c.args.part in
    let whole : spelled w ≡ spelled_in w (length old) = nlt! _ c.requires refl in
    let both = ap (λ (l : List ℕ). spelled_in l (length old)) c.part_of.ensures ∙ sym whole in
    let front : ℕ → Part = λ n. record { start = 0; len = n } in
    (ap front (c.spell_hex-n.ensures.0 ∙ ap length both), c.spell_hex-n.ensures.1 ∙ ap (put old 0) both)
