-- What `read_hex` leaves in sixteen zeros is the byte string with zeros after it, and the byte string itself where it has sixteen bytes.
use Prim.Native.Nat.{ℕ, zero, suc, ◌-◌, ◌/◌, ◌≤◌}
use mathlib.Core.Path.{◌≡◌, sym, ap, ◌∙◌}
use mathlib.Core.List.{List, ◌++◌}
use native.Mathlib.Omega.{arith}
use lib.ListN.{length, drop, replicate}
use lib.Seq.{take_all}
use Rattle.base_bytes.specs.Put.{put}
use Rattle.text_words.specs.Hex.{is_hex, spelled, hex_read_of, hex_left}
use Rattle.std.specs.Prelude.{Option, Some, None, Result, Ok, Err, MatchResult}
use Rattle.std.specs.Result.{result_ok, is_ok}
use Rattle.text_words.specs.declared.hex.HexError.{HexError}
use Rattle.script_words.specs.Arguments.{on_some, on_ok, on_next}
use Rattle.text_words.specs.Words.{on_word}
use Rattle.text_words.specs.declared.words.Span.{Span}
use Rattle.script_words.specs.declared.Reason.{Reason}
use Rattle.script_words.specs.declared.Reason.TheVariants.{WordsMissing}
use Rattle.script_words.specs.declared.Read.{Read}
use Rattle.base_bytes.proofs.PutLaws.{put_front}
use Rattle.text_words.proofs.HexLaws.{hex-fits, hex-full, hex-wrong, spelled-length}
use Rattle.base_choice.proofs.Branches.{on_test, on-lt}
use Rattle.card_isdp.specs.Aids.{padded}
use Rattle.card_isdp.proofs.Bytes.{pad-whole}
use Rattle.script_record.specs.Colons.{place_with}
use Rattle.script_record.specs.Records.{record_with}
use Rattle.std.proofs.lemmas.List.{drop-replicate}

pub hex-ok : (n : ℕ) (r : Result ℕ HexError) → Some n ≡ result_ok r → Ok n ≡ r
hex-ok n (Ok m) q = let i : n ≡ m = ap (λ (o : Option ℕ). on_some o 0 (λ k. k)) q in ap (λ (k : ℕ). Ok k) i
hex-ok n (Err why) q = let o : ◌≡◌ {A = ℕ} 0 1 = cc in absurd (omega arith)

pub mapped-ok : (n : ℕ) (r : Result ℕ HexError) (t : Result ℕ Reason) (P : HexError → Type 0) → MatchResult r (λ m. t ≡ Ok m) P → is_ok t ≡ is_ok r → Ok n ≡ t → Ok n ≡ r
mapped-ok n (Ok m) t P f v q = let i : n ≡ m = ap (λ (r : Result ℕ Reason). on_ok r (λ why. 0) (λ k. k)) (q ∙ f) in ap (λ (k : ℕ). Ok k) i
mapped-ok n (Err why) t P f v q = let e = ap (λ (r : Result ℕ Reason). is_ok r) q in let o : ◌≡◌ {A = ℕ} 0 1 = cc in absurd (omega arith)

-- the word that was read, and the place that the words are then at
abbrev word : Span → ℕ → Result (Read Span) Reason
word w at = Ok (record { value = w; next = at })

pub word-read : (w : Option Span) (v : Span) (k : ℕ) → word v k ≡ on_word w (Err WordsMissing) (λ a e. word (record { from = a; to = e }) e) → (Some v ≡ w) × (k ≡ v.to)
word-read (Some w) v k q = let i = ap (λ (r : Result (Read Span) Reason). on_next r (λ why. w) (λ u e. u)) q in (ap (λ (u : Span). Some u) i, ap (λ (r : Result (Read Span) Reason). on_next r (λ why. 0) (λ u e. e)) q ∙ ap (λ (u : Span). u.to) (sym i))
word-read None v k q = let o : ◌≡◌ {A = ℕ} 0 1 = cc in absurd (omega arith)

pub hex-taken : (s : List ℕ) (room n : ℕ) → Ok n ≡ hex_read_of s room → (n ≡ length (spelled s)) × ((n ≤ room) × (spelled s ≡ hex_left s room))
hex-taken s room n q =
    let k = spelled-length s in
    on_test (is_hex s)
    (λ e.
    on-lt room (length s / 2)
    (λ h. let p = (hex-full s room e h).0 in let o : ◌≡◌ {A = ℕ} 0 1 = cc in absurd (omega arith))
    (λ h.
    let p = (hex-fits s room e h).0 in
    let i : n ≡ length s / 2 = cc in
    (omega arith, (omega arith, (hex-fits s room e h).1))))
    (λ e. let p = (hex-wrong s room e).0 in let o : ◌≡◌ {A = ℕ} 0 1 = cc in absurd (omega arith))

pub put-padded : (vs : List ℕ) → length vs ≤ 16 → put (replicate 16 0) 0 vs ≡ padded vs
unfolding padded
put-padded vs h =
    put_front (replicate 16 0) vs h
    ∙ ap (λ (l : List ℕ). vs ++ l) (drop-replicate (length vs) 16 0)
    ∙ ap (λ (l : List ℕ). l ++ replicate (16 - length vs) 0) (sym (take_all 16 vs h))

pub aid-read : (s l : List ℕ) (n : ℕ) → Ok n ≡ hex_read_of s 16 → l ≡ put (replicate 16 0) 0 (hex_left s 16) → l ≡ padded (spelled s)
aid-read s l n q e =
    let t = hex-taken s 16 n q in
    let h : length (spelled s) ≤ 16 = omega arith in
    e ∙ ap (put (replicate 16 0) 0) (sym t.1.1) ∙ put-padded (spelled s) h

pub eid-read : (s l : List ℕ) (n : ℕ) → Ok n ≡ hex_read_of s 16 → n ≡ 16 → l ≡ put (replicate 16 0) 0 (hex_left s 16) → l ≡ spelled s
eid-read s l n q m e =
    let t = hex-taken s 16 n q in
    let h : length (spelled s) ≡ 16 = omega arith in
    aid-read s l n q e ∙ pad-whole (spelled s) h

pub place-as : (w : List ℕ) (at n : ℕ) {l m : List ℕ} → l ≡ m → place_with w at (record { bytes = l; len = n }) ≡ place_with w at (record { bytes = m; len = n })
place-as w at n e = ap (λ (l : List ℕ). place_with w at (record { bytes = l; len = n })) e

pub record-as : {s t : List ℕ} {i j : ℕ} {l m : List ℕ} → s ≡ t → i ≡ j → l ≡ m → record_with s i l ≡ record_with t j m
record-as {s} {t} {i} {j} {l} {m} e f g =
    ap (λ (s : List ℕ). record_with s i l) e
    ∙ ap (λ (i : ℕ). record_with t i l) f
    ∙ ap (record_with t j) g
