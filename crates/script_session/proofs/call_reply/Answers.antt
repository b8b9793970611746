-- `script_session::call_reply`: the call is answered over the bytes that are laid, and the response is what stands at the front of the buffer lent.
use mathlib.Core.Path.{refl}
use Rattle.script_reply.specs.Replies.{bytes_in, call_spelled, answer_to}
use Rattle.script_session.proofs.Spelled.{answer-is, response-left, response-is, text-short, replied}
use Rattle.script_session.proofs.call_reply.Goals as goal

pub returns : goal.returns
returns c =
    let a = c.args in
    let found = a.turn.sound in
    let card = a.turn.card in
    let line = a.s.now in
    let old = a.response.now in
    let served = c.answer_to-answer.ensures in
    let lies = c.lay-laid.ensures in
    let size = c.requires.1.1 in
    let small = c.requires.0.1 in (
      replied a.explain found (bytes_in line a.call) (answer_to found card (call_spelled line a.room a.call))
          (answer-is found card line a.call a.room old served lies size small)
          (response-is found card line a.call a.room old served lies size small)
          refl refl refl c.write_text-filled.ensures.0
          (text-short found card line a.call a.room old served lies size small _ c.write_text-filled.ensures.1),
      record { left-bytes = lies.content; left-response = response-left found card line a.call a.room old served lies size small },
    )
