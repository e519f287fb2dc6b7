-- The answers to a block are shown, one after another.
use Rattle.std.proofs.Common.{◌≡◌, ℕ, ◌+◌, ◌-◌, ◌<◌, ◌≤◌, ◌||◌, Bool, true, false, Option, Some, None, List, [], ◌∷◌, ◌++◌, length, take, refl, sym, ◌∙◌, ap, subst, arith, append_assoc, append-nil, length-append}
use Rattle.std.proofs.Math.ListN.{get_or}
use Rattle.std.proofs.Math.Seq.{take-append-add}
use Rattle.std.proofs.lemmas.List.{take_at}
use Rattle.std.specs.Prelude.{is_some}
use Rattle.run_blocks.specs.script_the_Numbered.{Numbered}
use Rattle.run_blocks.specs.run_specs_the_Answered.{Answered}
use Rattle.run_blocks.specs.run_specs_the_LineReply.{LineReply}
use Rattle.run_blocks.specs.run_specs_Histories.{History}
use Rattle.run_blocks.specs.run_specs_States.{histories_in}
use Rattle.run_session.specs.declared.sessions.Session.{Session}
use Rattle.run_session.specs.declared.sessions.Stop.{Stop}
use Rattle.run_session.specs.declared.sessions.Stop.TheVariants.{WriteFault, NoMemory as WantsMemory}
use Rattle.run_blocks.specs.Shown.{reply_text, report_text, is_refusal, has_refusal}
use Rattle.run_session.specs.Sessions.{counted, taken_whole, IsTaken, IsMadeOf, IsTextShown, IsOneShown, IsShownBy, AreShownOf, AreAllMade, AreAllShown}
use Rattle.run_session.proofs.BlockReplies.{made-more}
use Rattle.run_blocks.proofs.ShownLaws.{text_more, refusal_more, or_and_or}
use Rattle.run_session.proofs.Steps.{counted_more}

or_nothing : (b : Bool) → (b || false) ≡ b
or_nothing true = refl
or_nothing false = refl

-- none was shown yet
pub none-shown : {B : Type 0} (tells bank_tells : Type 0) (mark : ℕ) (hs : List History) (old new : Session B) (lines : List Numbered) (whats : List Answered) (taken : List ℕ) (o : Option Stop) → taken_whole o [] ≡ [] → ((told : tells) → IsTaken o taken taken (length (report_text hs lines (taken_whole o []))) [])
    → new.replies.items ≡ old.replies.items → new.refused ≡ old.refused → new.shown ≡ old.shown → (shown : AreShownOf tells bank_tells mark hs old new lines whats o taken taken) × (length shown.made ≡ 0)
none-shown tells bank_tells mark hs old new lines whats taken o nothing same replies refused shown = (
  record {
    made = [];
    more = replies ∙ sym (append-nil old.replies.items);
    told = tt;
    refused = refused ∙ sym (or_nothing old.refused);
    taken = same;
    shown = λ before is. shown ∙ is ∙ ap counted (let none = ap (λ (l : List LineReply). length (report_text hs lines l)) nothing in omega (arith, none));
  },
  refl,
)

module _ {B : Type 0} {tells bank_tells : Type 0} (mark : ℕ) (hs : List History) (old mid new : Session B) (lines : List Numbered) (whats : List Answered) (first_taken mid_taken new_taken : List ℕ)
    (was : AreShownOf tells bank_tells mark hs old mid lines whats None first_taken mid_taken) (nothing : Numbered) (done : List Answered) (what : Answered) (others : List Answered) (is : whats ≡ done ++ what ∷ others)
    (same : length done ≡ length was.made) (lt : length was.made < length lines) (states : histories_in mid.state ≡ hs)
    (one : IsOneShown tells bank_tells mark mid new (get_or lines (length was.made) nothing) what mid_taken new_taken) where
  abbrev line : Numbered
  line = get_or lines (length was.made) nothing

  abbrev text : List ℕ
  text = reply_text hs line.line one.reply

  all-text : report_text hs lines (was.made ++ one.reply ∷ []) ≡ report_text hs lines was.made ++ text
  all-text = text_more hs lines was.made nothing line one.reply lt refl

  shown-text : IsTextShown tells mid new text mid_taken new_taken new.stopped
  shown-text = subst (λ (h : List History). IsTextShown tells mid new (reply_text h line.line one.reply) mid_taken new_taken new.stopped) states one.shown

  taken-on : (o : Option Stop) → IsTextShown tells mid new text mid_taken new_taken o → tells → IsTaken o first_taken new_taken (length (report_text hs lines (taken_whole o (was.made ++ one.reply ∷ [])))) (report_text hs lines was.made ++ text)
  taken-on None did told = did.0 told ∙ ap (λ (t : List ℕ). t ++ text) (was.taken told) ∙ append_assoc first_taken (report_text hs lines was.made) text
  taken-on (Some WriteFault) did told =
      let part = did.0 told in (
        length (report_text hs lines was.made) + part.0,
        (let whole = ap (λ (l : List LineReply). length (report_text hs lines l)) (take_at was.made (one.reply ∷ []) (length (was.made ++ one.reply ∷ []) - 1) (let sum = length-append was.made (one.reply ∷ []) in omega (arith, sum))) in omega (arith, whole)),
        part.1 ∙ ap (λ (t : List ℕ). t ++ take part.0 text) (was.taken told) ∙ append_assoc first_taken (report_text hs lines was.made) (take part.0 text)
            ∙ ap (λ (t : List ℕ). first_taken ++ t) (sym (take-append-add (report_text hs lines was.made) text part.0)),
      )
  taken-on (Some WantsMemory) did told = absurd did

  shown-on : (o : Option Stop) → IsTextShown tells mid new text mid_taken new_taken o → IsShownBy old new (length (report_text hs lines (taken_whole o (was.made ++ one.reply ∷ []))))
  shown-on None did = λ before is. did.1 ∙ ap (λ (n : ℕ). counted (n + length text)) (was.shown before is) ∙ counted_more (before + length (report_text hs lines was.made)) (length text)
      ∙ ap counted (let sum = length-append (report_text hs lines was.made) text in let long = ap (λ (t : List ℕ). length t) all-text in omega (arith, sum, long))
  shown-on (Some WriteFault) did = λ before is. did.1 ∙ was.shown before is
      ∙ ap (λ (l : List LineReply). counted (before + length (report_text hs lines l)))
      (sym (take_at was.made (one.reply ∷ []) (length (was.made ++ one.reply ∷ []) - 1) (let sum = length-append was.made (one.reply ∷ []) in omega (arith, sum))))
  shown-on (Some WantsMemory) did = absurd did

  pub more-shown : (shown : AreShownOf tells bank_tells mark hs old new lines whats new.stopped first_taken new_taken) × (length shown.made ≡ length was.made + 1)
  more-shown = (
    record {
      made = was.made ++ one.reply ∷ [];
      more = one.more ∙ ap (λ (l : List LineReply). l ++ one.reply ∷ []) was.more ∙ append_assoc old.replies.items was.made (one.reply ∷ []);
      told = made-more bank_tells mark hs lines whats was.made nothing done what others one.reply was.told is same lt (subst (λ (h : List History). IsMadeOf bank_tells mark h line what one.reply) states one.made);
      refused = one.refused ∙ ap (λ (h : List History). mid.refused || is_refusal h line.line what) states ∙ ap (λ (b : Bool). b || is_refusal hs line.line what) was.refused
          ∙ sym (or_and_or old.refused (has_refusal hs lines was.made) (is_refusal hs line.line what))
          ∙ ap (λ (b : Bool). old.refused || b) (ap (λ (w : Answered). has_refusal hs lines was.made || is_refusal hs line.line w) (sym one.made.what_is) ∙ sym (refusal_more hs lines was.made nothing line one.reply lt refl));
      taken = λ told. subst (λ (t : List ℕ). IsTaken new.stopped first_taken new_taken (length (report_text hs lines (taken_whole new.stopped (was.made ++ one.reply ∷ [])))) t) (sym all-text) (taken-on new.stopped shown-text told);
      shown = shown-on new.stopped shown-text;
    },
    length-append was.made (one.reply ∷ []),
  )

  -- a session that stops there was stopped by the sink
  pub stopped-made : (o : Option Stop) → new.stopped ≡ o → is_some o ≡ true → (count many : ℕ) → 1 ≤ count → AreAllMade o many count
  stopped-made None is some count many le = absurd (cc)
  stopped-made (Some WriteFault) is some count many le = le
  stopped-made (Some WantsMemory) is some count many le = absurd (subst (λ (o : Option Stop). IsTextShown tells mid new text mid_taken new_taken o) is shown-text)

-- one answer more was shown, and the run goes on, or stops there
module _ {B : Type 0} {tells bank_tells : Type 0} (mark : ℕ) (hs : List History) (old mid new : Session B) (lines : List Numbered) (whats : List Answered) (first_taken mid_taken new_taken : List ℕ) (count : ℕ)
    (so-far : (shown : AreShownOf tells bank_tells mark hs old mid lines whats None first_taken mid_taken) × (length shown.made ≡ count)) (past : Numbered) (done : List Answered) (what : Answered) (others : List Answered)
    (is : whats ≡ done ++ what ∷ others) (index : count ≡ length done) (few : length whats ≤ length lines) (states : histories_in mid.state ≡ hs) (one : IsOneShown tells bank_tells mark mid new (get_or lines count past) what mid_taken new_taken) where
  lt : length so-far.0.made < length lines
  lt =
      let long = ap (λ (l : List Answered). length l) is in
      let sum = length-append done (what ∷ others) in
      let same = so-far.1 in
      omega (arith, long, sum, same, index, few)

  here : IsOneShown tells bank_tells mark mid new (get_or lines (length so-far.0.made) past) what mid_taken new_taken
  here = subst (λ (n : ℕ). IsOneShown tells bank_tells mark mid new (get_or lines n past) what mid_taken new_taken) (sym so-far.1) one

  pub next-shown : (shown : AreShownOf tells bank_tells mark hs old new lines whats new.stopped first_taken new_taken) × (length shown.made ≡ count + 1)
  next-shown =
      let more = more-shown mark hs old mid new lines whats first_taken mid_taken new_taken so-far.0 past done what others is (sym index ∙ sym so-far.1) lt states here in
      (more.0, more.1 ∙ ap (λ (n : ℕ). n + 1) so-far.1)

  pub next-stopped : is_some new.stopped ≡ true → AreAllShown tells bank_tells mark hs old new lines whats first_taken new_taken
  next-stopped stops = record {
    shown = next-shown.0;
    all = stopped-made mark hs old mid new lines whats first_taken mid_taken new_taken so-far.0 past done what others is (sym index ∙ sym so-far.1) lt states here new.stopped refl stops (length next-shown.0.made) (length lines)
        (let long = next-shown.1 in omega (arith, long));
  }

pub none-stopped : (o : Option Stop) → is_some o ≡ false → o ≡ None
none-stopped None is = refl
none-stopped (Some stop) is = absurd (cc)

-- the answers were shown in a session that had shown the same
pub same-shown : {B : Type 0} {tells bank_tells : Type 0} {mark : ℕ} {hs : List History} {lines : List Numbered} {whats : List Answered} {o : Option Stop} {first_taken new_taken : List ℕ} (old mid new : Session B)
    → mid.replies.items ≡ old.replies.items → mid.refused ≡ old.refused → mid.shown ≡ old.shown → AreShownOf tells bank_tells mark hs mid new lines whats o first_taken new_taken → AreShownOf tells bank_tells mark hs old new lines whats o first_taken new_taken
same-shown {hs = hs} {lines = lines} old mid new replies refused shown was = record {
  made = was.made;
  more = was.more ∙ ap (λ (l : List LineReply). l ++ was.made) replies;
  told = was.told;
  refused = was.refused ∙ ap (λ (b : Bool). b || has_refusal hs lines was.made) refused;
  taken = was.taken;
  shown = λ before is. was.shown before (shown ∙ is);
}

-- memory was short for the next one
pub short-shown : {B : Type 0} {tells bank_tells : Type 0} {mark : ℕ} {hs : List History} {lines : List Numbered} {whats : List Answered} {first_taken new_taken : List ℕ} (old mid new : Session B) (count : ℕ)
    → new.replies.items ≡ mid.replies.items → new.refused ≡ mid.refused → new.shown ≡ mid.shown → (shown : AreShownOf tells bank_tells mark hs old mid lines whats None first_taken new_taken) × (length shown.made ≡ count)
    → (shown : AreShownOf tells bank_tells mark hs old new lines whats (Some WantsMemory) first_taken new_taken) × (length shown.made ≡ count)
short-shown old mid new count replies refused shown (was, long) = (
  record {
    made = was.made;
    more = replies ∙ was.more;
    told = was.told;
    refused = refused ∙ was.refused;
    taken = was.taken;
    shown = λ before is. shown ∙ was.shown before is;
  },
  long,
)

-- or it goes on
pub whole-shown : {B : Type 0} {tells bank_tells : Type 0} {mark : ℕ} {hs : List History} {lines : List Numbered} {whats : List Answered} {first_taken new_taken : List ℕ} (old mid new : Session B) (count : ℕ)
    → new.replies.items ≡ mid.replies.items → new.refused ≡ mid.refused → new.shown ≡ mid.shown → (shown : AreShownOf tells bank_tells mark hs old mid lines whats None first_taken new_taken) × (length shown.made ≡ count)
    → (shown : AreShownOf tells bank_tells mark hs old new lines whats None first_taken new_taken) × (length shown.made ≡ count)
whole-shown old mid new count replies refused shown (was, long) = (
  record {
    made = was.made;
    more = replies ∙ was.more;
    told = was.told;
    refused = refused ∙ was.refused;
    taken = was.taken;
    shown = λ before is. shown ∙ was.shown before is;
  },
  long,
)

-- all that was shown by a session that had shown the same
pub same-all : {B : Type 0} {tells bank_tells : Type 0} {mark : ℕ} {hs : List History} {lines : List Numbered} {whats : List Answered} {first_taken new_taken : List ℕ} (old mid new : Session B)
    → mid.replies.items ≡ old.replies.items → mid.refused ≡ old.refused → mid.shown ≡ old.shown → AreAllShown tells bank_tells mark hs mid new lines whats first_taken new_taken → AreAllShown tells bank_tells mark hs old new lines whats first_taken new_taken
unfolding same-shown
same-all old mid new replies refused shown was = record { shown = same-shown old mid new replies refused shown was.shown; all = was.all }
