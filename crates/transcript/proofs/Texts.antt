-- The input is taken off a line a turn, and the text with it. A line is answered with 32 characters at the most for each byte that it is
-- of the input, its line feed among them, since a reply is short beside its line; so the whole text is.
use mathlib.Core.Path.{◌≡◌, refl, ap}
use mathlib.Core.Bool.{Bool, true, false, cond}
use mathlib.Core.List.{List, [], ◌∷◌, ◌++◌}
use Prim.Native.Nat.{ℕ, suc, ◌+◌, ◌-◌, ◌*◌, ◌≤◌, ◌<◌, max}
use native.Mathlib.Omega.{arith}
use lib.Dec.{eqb}
use Rattle.std.proofs.Common.{Option, Some, None, Result, Ok, Err}
use Rattle.refusal.specs.declared.Refusal.{Refusal}
use lib.ListN.{length, get_or, take, drop, replicate, length-append, length-take, length-drop}
use lib.Seq.{drop-cons, drop-drop}
use Rattle.lines.specs.Lines.{line_length, line_ok, bytes_of}
use Rattle.lines.proofs.Laws.{bytes_length}
use Rattle.lines.proofs.Texts.{text_length_lem}
use Rattle.meter.specs.declared.Meter.{Meter}
use Rattle.transcript.specs.Transcript.{begun_by, lines_of, bad_text, reply_text, outcome_of, line_text, meter_after, transcript_of}
use Rattle.transcript.proofs.Outcomes.{brief}

-- ---- line by line

by_feed : (b : Bool) (c : ℕ) (cs : List ℕ) → begun_by c (lines_of cs) ≡ (c ∷ take (line_length cs) cs) ∷ lines_of (drop (line_length cs + 1) cs) → cond b ([] ∷ lines_of cs) (begun_by c (lines_of cs)) ≡ take (cond b 0 (1 + line_length cs)) (c ∷ cs) ∷ lines_of (drop (cond b 0 (1 + line_length cs) + 1) (c ∷ cs))
by_feed true c cs h = refl
by_feed false c cs h =
    let two : 1 + line_length cs + 1 ≡ suc (line_length cs + 1) = omega arith in
    let one : 1 + line_length cs ≡ suc (line_length cs) = omega arith in
    rw (two, one) h

first_line : (c : ℕ) (cs : List ℕ) → lines_of (c ∷ cs) ≡ take (line_length (c ∷ cs)) (c ∷ cs) ∷ lines_of (drop (line_length (c ∷ cs) + 1) (c ∷ cs))
unfolding lines_of line_length begun_by
first_line c [] = by_feed (eqb c 0x0A) c [] refl
first_line c (d ∷ ds) = by_feed (eqb c 0x0A) c (d ∷ ds) (ap (begun_by c) (first_line d ds))

pub line_most : (l : List ℕ) → line_length l ≤ length l
unfolding line_length
line_most [] = omega arith
line_most (c ∷ cs) = by (eqb c 0x0A) (line_most cs)
  where
    by : (b : Bool) → line_length cs ≤ length cs → cond b 0 (1 + line_length cs) ≤ length (c ∷ cs)
    by true h = omega arith
    by false h = omega arith

module _ (input : List ℕ) (at stop : ℕ) (inside : at < length input) (ends : stop ≡ at + line_length (drop at input)) where
  abbrev line : List ℕ
  line = take (stop - at) (drop at input)

  pub line_ends : stop ≤ length input
  line_ends = omega (arith, line_most (drop at input), length-drop at input, ends)

  next_line : lines_of (drop at input) ≡ line ∷ lines_of (drop (stop + 1) input)
  next_line =
      let long : stop - at ≡ line_length (drop at input) = omega arith in
      let behind : stop + 1 ≡ at + (line_length (drop at input) + 1) = omega arith in
      let whole = drop-cons input at 0 inside in
      rw (long, behind, ← drop-drop (line_length (drop at input) + 1) at input, whole) (first_line (get_or input at 0) (drop (suc at) input))

  pub next_text : (m : Meter) → transcript_of m (lines_of (drop at input)) ≡ line_text m line ++ (0x0A ∷ transcript_of (meter_after m line) (lines_of (drop (stop + 1) input)))
  unfolding transcript_of
  next_text m = ap (transcript_of m) next_line

  pub next_length : (m : Meter) → length (transcript_of m (lines_of (drop at input))) ≡ length (line_text m line) + 1 + length (transcript_of (meter_after m line) (lines_of (drop (stop + 1) input)))
  next_length m =
      let left = transcript_of (meter_after m line) (lines_of (drop (stop + 1) input)) in
      omega (arith, ap length (next_text m), length-append (line_text m line) (0x0A ∷ left))

-- ---- the room that it takes

-- the bytes that a line is of the input, one at the least
abbrev share : List ℕ → ℕ
share line = max 1 (length line)

abbrev shares : List (List ℕ) → ℕ
shares [] = 0
shares (line ∷ lines) = share line + shares lines

begun_shares : (c : ℕ) (lines : List (List ℕ)) → shares (begun_by c lines) ≤ 1 + shares lines
unfolding begun_by
begun_shares c [] = omega arith
begun_shares c (line ∷ lines) = omega arith

input_shares : (input : List ℕ) → shares (lines_of input) ≤ length input
unfolding lines_of
input_shares [] = omega arith
input_shares (c ∷ cs) = by (eqb c 0x0A) (input_shares cs)
  where
    by : (b : Bool) → shares (lines_of cs) ≤ length cs → shares (cond b ([] ∷ lines_of cs) (begun_by c (lines_of cs))) ≤ length (c ∷ cs)
    by true h = omega arith
    by false h = omega (arith, begun_shares c (lines_of cs))

-- a reply is brief, and so are `silent` and `bad line`
reply_most : (r : Result (Option ℕ) Refusal) (buffer : List ℕ) (n : ℕ) → 1 ≤ n → ((k : ℕ) → r ≡ Ok (Some k) → 3 * k ≤ 32 * n) → length (reply_text r buffer) + 1 ≤ 32 * n
reply_most (Ok None) buffer n h k = omega arith
reply_most (Ok (Some s)) buffer n h k = omega (arith, k s refl, text_length_lem (take s buffer), length-take s buffer)
reply_most (Err reason) buffer n h k = omega arith

answer_most : (m : Meter) (line : List ℕ) → length (line_text m line) + 1 ≤ 32 * share line
unfolding line_text outcome_of
answer_most m line = by (line_ok line)
  where
    by : (b : Bool) → length (cond b (reply_text (outcome_of m line).handled.reply (outcome_of m line).buffer) bad_text) + 1 ≤ 32 * share line
    by true =
        reply_most (outcome_of m line).handled.reply (outcome_of m line).buffer (share line) (omega arith)
        (λ k e. omega (arith, brief m (bytes_of line) (replicate 256 0) k e, bytes_length line))
    by false = omega arith

text_most : (m : Meter) (lines : List (List ℕ)) → length (transcript_of m lines) ≤ 32 * shares lines
unfolding transcript_of
text_most m [] = omega arith
text_most m (line ∷ lines) =
    simp length-append (omega (arith, answer_most m line, text_most (meter_after m line) lines))

pub input_most : (m : Meter) (input : List ℕ) → length (transcript_of m (lines_of input)) ≤ 32 * length input
input_most m input = omega (arith, text_most m (lines_of input), input_shares input)
