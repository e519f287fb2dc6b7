-- What the replies show stays as the histories grow, and goes on with each reply.
use Rattle.std.proofs.Common.{◌≡◌, ℕ, zero, suc, ◌<◌, ◌||◌, Bool, true, false, Option, List, [], ◌∷◌, ◌++◌, length, take, drop, ◌≤◌, refl, sym, ◌∙◌, ap, arith, append_assoc, append-nil}
use Rattle.std.proofs.Math.ListN.{get_or}
use Rattle.std.specs.Option.{option_map_or}
use Rattle.script_status.specs.history_the_Entry.{Entry}
use Rattle.script_status.specs.script_Texts.{lane_text}
use Rattle.script_status.specs.script_the_Line.{Line}
use Rattle.script_status.specs.script_the_Numbered.{Numbered}
use Rattle.script_status.specs.script_the_Lane.{Lane}
use Rattle.run_line_answers.specs.run_specs_the_Answered.{Answered}
use Rattle.run_line_answers.specs.run_specs_the_Answered_TheVariants.{Inside, Outside as IsOutside}
use Rattle.run_line_answers.specs.run_specs_the_LineReply.{LineReply}
use Rattle.run_line_answers.specs.run_specs_Histories.{History, entry_at}
use Rattle.run_line_answers.specs.run_specs_Making.{Setting}
use Rattle.run_line_answers.specs.run_specs_Replies.{Course, course_after, AreReplies}
use Rattle.run_blocks.specs.Shown.{entry_text, answer_text, reply_text, report_text, tells_refusal, is_refusal, has_refusal}
use Rattle.run_line_answers.specs.run_specs_States.{AreGrown, IsNamed}
use Rattle.run_line_answers.proofs.run_specs_Growth.{some_named, named_stays, answer_in_named}

-- what an answer shows stays
answer_shown : (olds news : List History) (lane : Lane) (line : Line) (what : Answered) → AreGrown olds news → IsNamed olds what → (answer_text news lane line what ≡ answer_text olds lane line what) × (is_refusal news line what ≡ is_refusal olds line what)
answer_shown olds news lane line (Inside epoch at) grown named =
    let is = some_named (entry_at olds epoch at) named in
    let same : entry_at news epoch at ≡ entry_at olds epoch at = named_stays olds news grown epoch at is.0 (is.1) ∙ sym (is.1) in
    (ap (λ (o : Option Entry). option_map_or (λ e. entry_text lane line e.event) o []) same, ap (λ (o : Option Entry). option_map_or (λ e. tells_refusal line e.event) o false) same)
answer_shown olds news lane line (IsOutside outside) grown named = (refl, refl)

-- and so does what the replies to the first so many lines show
pub shown_stays : (setting : Setting) (olds news : List History) (course : Course) (n : ℕ) (lines : List Numbered) (replies : List LineReply) → AreGrown olds news → AreReplies setting olds course (take n lines) replies
    → (report_text news lines replies ≡ report_text olds lines replies) × (has_refusal news lines replies ≡ has_refusal olds lines replies)
shown_stays setting olds news course n lines [] grown was = (refl, refl)
shown_stays setting olds news course zero lines (reply ∷ replies) grown was = absurd was
shown_stays setting olds news course (suc n) [] (reply ∷ replies) grown was = absurd was
shown_stays setting olds news course (suc n) (line ∷ lines) (reply ∷ replies) grown (one, rest) =
    let first = answer_shown olds news reply.lane line.line reply.what grown (answer_in_named setting olds course line.lane line.line reply.end reply.what one.answer) in
    let others = shown_stays setting olds news (course_after olds course line.lane line.line reply.what) n lines replies grown rest in (
      ap (λ (t : List ℕ). (lane_text reply.lane ++ t ++ 10 ∷ []) ++ report_text news lines replies) (first.0) ∙ ap (λ (t : List ℕ). reply_text olds line.line reply ++ t) (others.0),
      ap (λ (b : Bool). b || has_refusal news lines replies) (first.1) ∙ ap (λ (b : Bool). is_refusal olds line.line reply.what || b) (others.1),
    )

-- one reply more
pub text_more : (histories : List History) (lines : List Numbered) (replies : List LineReply) (nothing line : Numbered) (reply : LineReply) → length replies < length lines → get_or lines (length replies) nothing ≡ line
    → report_text histories lines (replies ++ reply ∷ []) ≡ report_text histories lines replies ++ reply_text histories line.line reply
text_more histories [] replies nothing line reply lt here = absurd (omega (arith, lt))
text_more histories (l ∷ lines) [] nothing line reply lt here = append-nil (reply_text histories l.line reply) ∙ ap (λ (n : Numbered). reply_text histories n.line reply) here
text_more histories (l ∷ lines) (r ∷ replies) nothing line reply lt here =
    ap (λ (t : List ℕ). reply_text histories l.line r ++ t) (text_more histories lines replies nothing line reply (omega (arith, lt)) here)
    ∙ sym (append_assoc (reply_text histories l.line r) (report_text histories lines replies) (reply_text histories line.line reply))

pub refusal_more : (histories : List History) (lines : List Numbered) (replies : List LineReply) (nothing line : Numbered) (reply : LineReply) → length replies < length lines → get_or lines (length replies) nothing ≡ line
    → has_refusal histories lines (replies ++ reply ∷ []) ≡ (has_refusal histories lines replies || is_refusal histories line.line reply.what)
refusal_more histories [] replies nothing line reply lt here = absurd (omega (arith, lt))
refusal_more histories (l ∷ lines) [] nothing line reply lt here = or_false (is_refusal histories l.line reply.what) ∙ ap (λ (n : Numbered). is_refusal histories n.line reply.what) here
  where
    or_false : (b : Bool) → (b || false) ≡ b
    or_false true = refl
    or_false false = refl
refusal_more histories (l ∷ lines) (r ∷ replies) nothing line reply lt here =
    ap (λ (b : Bool). is_refusal histories l.line r.what || b) (refusal_more histories lines replies nothing line reply (omega (arith, lt)) here)
    ∙ or_assoc (is_refusal histories l.line r.what) (has_refusal histories lines replies) (is_refusal histories line.line reply.what)
  where
    or_assoc : (a b c : Bool) → (a || (b || c)) ≡ ((a || b) || c)
    or_assoc true b c = refl
    or_assoc false b c = refl

-- several replies more
pub or_and_or : (a b c : Bool) → (a || (b || c)) ≡ ((a || b) || c)
or_and_or true b c = refl
or_and_or false b c = refl

pub text_both : (histories : List History) (lines : List Numbered) (replies made : List LineReply) → length replies ≤ length lines
    → report_text histories lines (replies ++ made) ≡ report_text histories lines replies ++ report_text histories (drop (length replies) lines) made
text_both histories lines [] made le = refl
text_both histories [] (r ∷ replies) made le = absurd (omega (arith, le))
text_both histories (l ∷ lines) (r ∷ replies) made le =
    ap (λ (t : List ℕ). reply_text histories l.line r ++ t) (text_both histories lines replies made (omega (arith, le)))
    ∙ sym (append_assoc (reply_text histories l.line r) (report_text histories lines replies) (report_text histories (drop (length replies) lines) made))

pub refusal_both : (histories : List History) (lines : List Numbered) (replies made : List LineReply) → length replies ≤ length lines
    → has_refusal histories lines (replies ++ made) ≡ (has_refusal histories lines replies || has_refusal histories (drop (length replies) lines) made)
refusal_both histories lines [] made le = refl
refusal_both histories [] (r ∷ replies) made le = absurd (omega (arith, le))
refusal_both histories (l ∷ lines) (r ∷ replies) made le =
    ap (λ (b : Bool). is_refusal histories l.line r.what || b) (refusal_both histories lines replies made (omega (arith, le)))
    ∙ or_and_or (is_refusal histories l.line r.what) (has_refusal histories lines replies) (has_refusal histories (drop (length replies) lines) made)

-- the lines behind the replies don't matter
pub text_front : (histories : List History) (n : ℕ) (lines : List Numbered) (made : List LineReply) → length made ≤ n → report_text histories (take n lines) made ≡ report_text histories lines made
text_front histories n lines [] le = refl
text_front histories zero lines (r ∷ made) le = absurd (omega (arith, le))
text_front histories (suc n) [] (r ∷ made) le = refl
text_front histories (suc n) (l ∷ lines) (r ∷ made) le = ap (λ (t : List ℕ). reply_text histories l.line r ++ t) (text_front histories n lines made (omega (arith, le)))

pub refusal_front : (histories : List History) (n : ℕ) (lines : List Numbered) (made : List LineReply) → length made ≤ n → has_refusal histories (take n lines) made ≡ has_refusal histories lines made
refusal_front histories n lines [] le = refl
refusal_front histories zero lines (r ∷ made) le = absurd (omega (arith, le))
refusal_front histories (suc n) [] (r ∷ made) le = refl
refusal_front histories (suc n) (l ∷ lines) (r ∷ made) le = ap (λ (b : Bool). is_refusal histories l.line r.what || b) (refusal_front histories n lines made (omega (arith, le)))
