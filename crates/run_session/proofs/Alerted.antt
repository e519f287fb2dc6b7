-- The alerts that a run tells, from line to line.
use Rattle.std.proofs.Common.{◌≡◌, ◌≢◌, ◌⊎◌, inl, inr, ℕ, zero, suc, ◌+◌, ◌-◌, ◌<◌, ◌≤◌, Bool, true, false, Option, Some, None, List, [], ◌∷◌, ◌++◌, length, take, drop, map, refl, sym, ◌∙◌, ap, subst, arith, append-nil, length-append, length-drop}
use Rattle.std.specs.Prelude.{slice_get, if◌then◌else◌, IsTrue}
use Rattle.std.specs.Option.{option_map_or}
use Rattle.std.specs.List.{All}
use Rattle.std.proofs.Math.ListN.{get_or}
use Rattle.std.proofs.Math.Seq.{drop-cons, drop-append_seam, drop-length}
use Rattle.std.proofs.lemmas.List.{take_all, take-append-le, length-map, length-take-le}
use Rattle.std.proofs.lemmas.List.Elements.{All-head, All-tail}
use Rattle.run_blocks.specs.history_the_Entry.{Entry}
use Rattle.run_blocks.specs.history_the_Epoch.{Epoch}
use Rattle.run_blocks.specs.history_Flat.{length_of}
use Rattle.run_blocks.specs.history_monitor_the_Alert.{Alert}
use Rattle.run_blocks.specs.history_monitor_the_AlertKind.{AlertKind}
use Rattle.run_blocks.specs.history_monitor_the_Past.{Past}
use Rattle.run_blocks.specs.history_monitor_Alerts.{past_of, alerts, alerts_since}
use Rattle.run_blocks.specs.history_monitor_Told.{AreTold, HasScanned}
use Rattle.run_blocks.proofs.history_monitor_ToldLaws.{told-none, told-since}
use Rattle.run_blocks.specs.script_the_Line.{Line}
use Rattle.run_blocks.specs.script_the_Line_TheVariants.{Alerts as AsksAlerts}
use Rattle.run_blocks.specs.script_the_Lane.{Lane}
use Rattle.run_blocks.specs.script_the_Lane_TheVariants.{Script as InScript}
use Rattle.run_blocks.specs.script_the_Numbered.{Numbered}
use Rattle.run_blocks.specs.run_specs_the_Answered.{Answered}
use Rattle.run_blocks.specs.run_specs_the_Answered_TheVariants.{Inside, Outside as IsOutside}
use Rattle.run_blocks.specs.run_specs_the_Outside_TheVariants.{Created, Assembled, Examined, Alerts as ToldAlerts, Refused}
use Rattle.run_blocks.specs.run_specs_the_LineReply.{LineReply}
use Rattle.run_blocks.specs.run_specs_the_State.{State}
use Rattle.run_blocks.specs.run_specs_the_State_TheVariants.{Idle, Running}
use Rattle.run_blocks.specs.run_specs_Histories.{History, history_of, histories_of, entry_at, is_end}
use Rattle.run_blocks.specs.run_specs_Making.{Setting}
use Rattle.run_blocks.specs.run_specs_Replies.{Course, at_rest, gone_on, calls_behind, course_behind, entries_to, course_after, course_of, IsAnswer, IsAnswerBeside, AreReplies}
use Rattle.run_blocks.specs.run_specs_States.{running_history, histories_in, course_in, IsGrown, AreGrown, IsTurn, IsBeside, AreAnswersBeside}
use Rattle.run_blocks.proofs.run_specs_Growth.{history_stays, grown_then, course_stays, courses_stay, answer_in_named, beside_after}
use Rattle.run_blocks.proofs.run_line_answers_Turns.{get_last}
use Rattle.run_session.specs.declared.sessions.Stop.{Stop}
use Rattle.run_session.specs.declared.sessions.Stop.TheVariants.{WriteFault, NoMemory as WantsMemory}
use Rattle.run_session.specs.declared.sessions.Session.{Session}
use Rattle.run_session.specs.Sessions.{AreMadeOf, IsStep, IsLineStep, IsBlockStep, IsTurnStep}
use Rattle.run_session.proofs.BlockReplies.{made-few, block-lanes}
use Rattle.run_session.specs.Alerting.{entries_in, alerts_in, told_behind, AreAllTold, AreAllToldBy, AreAlertsTold, watched_by, IsWatching, AreToldNow, IsScanned, IsFirstScanned, IsTurnScanned}

-- ---- the array that runs goes on

last-grown : (olds news : List History) (o n : History) → length olds ≡ length news → AreGrown (olds ++ o ∷ []) (news ++ n ∷ []) → IsGrown o n
last-grown [] [] o n same (one, rest) = one
last-grown [] (k ∷ news) o n same grown = absurd (omega (arith, same))
last-grown (h ∷ olds) [] o n same grown = absurd (omega (arith, same))
last-grown (h ∷ olds) (k ∷ news) o n same (one, rest) = last-grown olds news o n (omega (arith, same)) rest

-- the entries of the array that runs stand behind those that ran before
entries-on : {B : Type 0} (old new : State B) → AreGrown (histories_in old) (histories_in new) → ((course_in old).running ≡ true → (course_in new).opened ≡ (course_in old).opened) → (course_in new).running ≡ true
    → (more : List Entry) × (entries_in new ≡ entries_in old ++ more)
entries-on old (Idle bank epochs) grown opened runs = absurd (cc)
entries-on (Idle bank olds) (Running array epochs) grown opened runs = (array.parts.entries, refl)
entries-on (Running was olds) (Running array epochs) grown opened runs =
    let same = opened refl in
    let counts : length olds.items ≡ length epochs.items = omega (arith, same) in
    let is = last-grown (histories_of olds.items) (histories_of epochs.items) (running_history was.parts) (running_history array.parts)
    (length-map olds.items history_of ∙ counts ∙ sym (length-map epochs.items history_of)) grown in
    (is.more, is.grown)

-- an answer of the array that runs opens no other
by-end : (opened : ℕ) (b : Bool) (one other : Course) → one.opened ≡ opened → other.opened ≡ opened → (if b then one else other).opened ≡ opened
by-end opened true one other first second = first
by-end opened false one other first second = second

opened-still : (setting : Setting) (hs : List History) (c : Course) (line : Line) (end : ℕ) (what : Answered) → IsAnswer setting hs c line end what → c.running ≡ true → (course_after hs c InScript line what).opened ≡ c.opened
opened-still setting hs c line end (Inside epoch at) answer runs = by (entry_at hs epoch at)
  where
    by : (o : Option Entry) → (option_map_or (course_behind InScript c (entries_to hs epoch at)) o c).opened ≡ c.opened
    by None = refl
    by (Some e) = by-end c.opened (is_end e.event) (at_rest c.opened) (gone_on (calls_behind c.calls e) (length_of c.size (entries_to hs epoch at)) c) refl refl
opened-still setting hs c line end (IsOutside Created) answer runs = absurd (let clash : true ≡ false = sym runs ∙ answer.0 in cc)
opened-still setting hs c line end (IsOutside (Assembled epoch status)) answer runs = absurd (let clash : true ≡ false = sym runs ∙ answer.0 in cc)
opened-still setting hs c line end (IsOutside (Examined slot found)) answer runs = refl
opened-still setting hs c line end (IsOutside (ToldAlerts list)) answer runs = refl
opened-still setting hs c line end (IsOutside (Refused refusal)) answer runs = refl

turn-opened : {B : Type 0} (setting : Setting) (old new : State B) (line : Line) (what : Answered) → IsTurn setting old new line what → (course_in old).running ≡ true → (course_in new).opened ≡ (course_in old).opened
turn-opened setting old new line what turn runs =
    ap (λ (c : Course). c.opened) turn.course ∙ opened-still setting (histories_in new) (course_in old) line (length setting.tape) what turn.answer runs

-- ---- the monitor

all-scanned : (entries : List Entry) → HasScanned (past_of entries) entries
all-scanned entries = record { within = omega arith; known = ap past_of (sym (take_all (length entries) entries (omega arith))) }

take-nil : (n : ℕ) → let none : List Entry = [] in take n none ≡ none
take-nil zero = refl
take-nil (suc n) = refl

module _ (answers : AlertKind → ℕ → Bool → Type 0) where
  -- nothing was scanned
  pub watching-none : IsWatching answers (past_of []) [] []
  watching-none = record { scanned = all-scanned []; all = told-none answers }

  watching-idle : (past : Past) (t : List Alert) → IsWatching answers past [] t → t ≡ []
  watching-idle past t was = (subst (λ (l : List Entry). AreTold answers (alerts l) t) (take-nil past.scanned) was.all).sifted

  -- the history grows
  watching-grow : (past : Past) (entries more : List Entry) (t : List Alert) → IsWatching answers past entries t → IsWatching answers past (entries ++ more) t
  watching-grow past entries more t was =
      let front = take-append-le past.scanned entries more was.scanned.within in
      let long = length-append entries more in
      let within = was.scanned.within in
      record {
        scanned = record { within = omega (arith, long, within); known = was.scanned.known ∙ ap past_of (sym front) };
        all = subst (λ (l : List Entry). AreTold answers (alerts l) t) (sym front) was.all;
      }

  watching-same : (old new : Past) (entries : List Entry) (t : List Alert) → IsWatching answers old entries t → new ≡ old → IsWatching answers new entries (t ++ [])
  watching-same old new entries t was same =
      subst (λ (l : List Alert). IsWatching answers new entries l) (sym (append-nil t)) (subst (λ (p : Past). IsWatching answers p entries t) (sym same) was)

  -- a line is answered
  watching-scan : (old new : Past) (entries : List Entry) (t : List Alert) (what : Answered) → IsWatching answers old entries t → IsScanned answers entries old new what → IsWatching answers new entries (t ++ alerts_in what)
  watching-scan old new entries t (Inside epoch at) was is = watching-same old new entries t was is
  watching-scan old new entries t (IsOutside Created) was is = watching-same old new entries t was is
  watching-scan old new entries t (IsOutside (Assembled epoch status)) was is = watching-same old new entries t was is
  watching-scan old new entries t (IsOutside (Examined slot found)) was is = watching-same old new entries t was is
  watching-scan old new entries t (IsOutside (Refused refusal)) was is = watching-same old new entries t was is
  watching-scan old new entries t (IsOutside (ToldAlerts list)) was (told, known) =
      subst (λ (p : Past). IsWatching answers p entries (t ++ list)) (sym known) (record {
        scanned = all-scanned entries;
        all = subst (λ (l : List Entry). AreTold answers (alerts l) (t ++ list)) (sym (take_all (length entries) entries (omega arith))) (told-since answers old.scanned entries t list was.all told);
      })

  -- ---- one line

  -- the alerts of the array that runs are all told
  told-now : {B : Type 0} (old : State B) (hs : List History) (t : List Alert) → IsTrue (course_in old).running → AreGrown (histories_in old) hs → AreTold answers (alerts (entries_in old)) t → AreAllTold answers hs (course_in old) t
  told-now (Idle bank epochs) hs t runs grown all = absurd (cc)
  told-now (Running array epochs) hs t runs grown all =
      let there : slice_get (histories_of epochs.items ++ running_history array.parts ∷ []) (length epochs.items) ≡ Some (running_history array.parts) =
      ap (λ (n : ℕ). slice_get (histories_of epochs.items ++ running_history array.parts ∷ []) n) (sym (length-map epochs.items history_of)) ∙ get_last (histories_of epochs.items) (running_history array.parts) in
      let now = history_stays (histories_of epochs.items ++ running_history array.parts ∷ []) hs grown (length epochs.items) (running_history array.parts) there in
      let at : length epochs.items ≡ length epochs.items + 1 - 1 = omega arith in
      record {
        history = now.0;
        there = subst (λ (n : ℕ). slice_get hs n ≡ Some now.0) at now.1;
        before = running_history array.parts;
        grown = now.2;
        calls = λ lane. refl;
        all = all;
      }

  line-all : {B : Type 0} (setting : Setting) (old : State B) (hs : List History) (line : Line) (end : ℕ) (what : Answered) (past next : Past) (t : List Alert) → AreGrown (histories_in old) hs → IsAnswer setting hs (course_in old) line end what
      → IsWatching answers past (entries_in old) t → IsScanned answers (entries_in old) past next what → AreAllToldBy answers hs (course_in old) t what
  line-all setting old hs line end (Inside epoch at) past next t grown answer was scan = tt
  line-all setting old hs line end (IsOutside Created) past next t grown answer was scan = tt
  line-all setting old hs line end (IsOutside (Assembled epoch status)) past next t grown answer was scan = tt
  line-all setting old hs line end (IsOutside (Examined slot found)) past next t grown answer was scan = tt
  line-all setting old hs line end (IsOutside (Refused refusal)) past next t grown answer was scan = tt
  line-all setting old hs line end (IsOutside (ToldAlerts list)) past next t grown answer was scan =
      told-now old hs (t ++ list) answer.0 grown (told-since answers past.scanned (entries_in old) t list was.all scan.0)

  line-watched : {B : Type 0} (old new : State B) (what : Answered) (past next : Past) (t : List Alert) → ((course_in new).running ≡ true → (more : List Entry) × (entries_in new ≡ entries_in old ++ more))
      → IsWatching answers past (entries_in old) t → IsScanned answers (entries_in old) past next what → IsWatching answers (watched_by new next) (entries_in new) (told_behind (course_in new) t what)
  line-watched old (Idle bank epochs) what past next t on was scan = watching-none
  line-watched old (Running array epochs) what past next t on was scan =
      let more = on refl in
      subst (λ (l : List Entry). IsWatching answers next l (t ++ alerts_in what)) (sym more.1) (watching-grow next (entries_in old) more.0 (t ++ alerts_in what) (watching-scan past next (entries_in old) t what was scan))

  -- ---- what is told stays told

  all-stays : (olds news : List History) (c : Course) (t : List Alert) (what : Answered) → AreGrown olds news → AreAllToldBy answers olds c t what → AreAllToldBy answers news c t what
  all-stays olds news c t (Inside epoch at) grown was = tt
  all-stays olds news c t (IsOutside Created) grown was = tt
  all-stays olds news c t (IsOutside (Assembled epoch status)) grown was = tt
  all-stays olds news c t (IsOutside (Examined slot found)) grown was = tt
  all-stays olds news c t (IsOutside (Refused refusal)) grown was = tt
  all-stays olds news c t (IsOutside (ToldAlerts list)) grown was =
      let now = history_stays olds news grown (c.opened - 1) was.history was.there in
      record { history = now.0; there = now.1; before = was.before; grown = grown_then was.before was.history now.0 was.grown now.2; calls = was.calls; all = was.all }

-- ---- several lines

-- what the epoch's lines have told behind these replies
abbrev pub told_of : List History → Course → List Alert → List Numbered → List LineReply → List Alert
told_of hs c t lines [] = t
told_of hs c t [] (r ∷ rs) = t
told_of hs c t (l ∷ ls) (r ∷ rs) = told_of hs (course_after hs c l.lane l.line r.what) (told_behind (course_after hs c l.lane l.line r.what) t r.what) ls rs

module _ (answers : AlertKind → ℕ → Bool → Type 0) where
  pub alerts_stay : (setting : Setting) (olds news : List History) (c : Course) (t : List Alert) (n : ℕ) (lines : List Numbered) (rs : List LineReply) → AreGrown olds news → AreReplies setting olds c (take n lines) rs → AreAlertsTold answers olds c t lines rs
      → AreAlertsTold answers news c t lines rs × (told_of news c t lines rs ≡ told_of olds c t lines rs)
  alerts_stay setting olds news c t n lines [] grown was is = (tt, refl)
  alerts_stay setting olds news c t n [] (r ∷ rs) grown was is = absurd is
  alerts_stay setting olds news c t zero (l ∷ ls) (r ∷ rs) grown was is = absurd was
  alerts_stay setting olds news c t (suc n) (l ∷ ls) (r ∷ rs) grown (one, rest) (first, others) =
      let same = course_stays olds news c l.lane l.line r.what grown (answer_in_named setting olds c l.lane l.line r.end r.what one.answer) in
      let next = course_after olds c l.lane l.line r.what in
      let later = alerts_stay setting olds news next (told_behind next t r.what) n ls rs grown rest others in (
        (all-stays answers olds news c t r.what grown first, subst (λ (d : Course). AreAlertsTold answers news d (told_behind d t r.what) ls rs) (sym same) later.0),
        ap (λ (d : Course). told_of news d (told_behind d t r.what) ls rs) same ∙ later.1,
      )

  alerts_both : (hs : List History) (c : Course) (t : List Alert) (lines : List Numbered) (rs made : List LineReply) → length rs ≤ length lines → AreAlertsTold answers hs c t lines rs
      → AreAlertsTold answers hs (course_of hs c (take (length rs) lines) rs) (told_of hs c t lines rs) (drop (length rs) lines) made → AreAlertsTold answers hs c t lines (rs ++ made)
  alerts_both hs c t lines [] made fits was next = next
  alerts_both hs c t [] (r ∷ rs) made fits was next = absurd was
  alerts_both hs c t (l ∷ ls) (r ∷ rs) made fits (one, rest) next =
      (one, alerts_both hs (course_after hs c l.lane l.line r.what) (told_behind (course_after hs c l.lane l.line r.what) t r.what) ls rs made (omega (arith, fits)) rest next)

  -- those of the first lines
  alerts_front : (hs : List History) (c : Course) (t : List Alert) (n : ℕ) (lines : List Numbered) (made : List LineReply) → AreAlertsTold answers hs c t (take n lines) made → AreAlertsTold answers hs c t lines made
  alerts_front hs c t n lines [] was = tt
  alerts_front hs c t zero lines (r ∷ made) was = absurd was
  alerts_front hs c t (suc n) [] (r ∷ made) was = was
  alerts_front hs c t (suc n) (l ∷ ls) (r ∷ made) (one, rest) =
      (one, alerts_front hs (course_after hs c l.lane l.line r.what) (told_behind (course_after hs c l.lane l.line r.what) t r.what) n ls made rest)

  -- a block tells none
  beside-none : (hs : List History) (c : Course) (t : List Alert) (lane : Lane) (line : Line) (what : Answered) → IsAnswerBeside hs c lane line what → AreAllToldBy answers hs c t what × (alerts_in what ≡ [])
  beside-none hs c t lane line (Inside epoch at) answer = (tt, refl)
  beside-none hs c t lane line (IsOutside Created) answer = absurd answer
  beside-none hs c t lane line (IsOutside (Assembled epoch status)) answer = absurd answer
  beside-none hs c t lane line (IsOutside (Examined slot found)) answer = absurd answer
  beside-none hs c t lane line (IsOutside (ToldAlerts list)) answer = absurd answer
  beside-none hs c t lane line (IsOutside (Refused refusal)) answer = (tt, refl)

  block-alerts : (tells : Type 0) (mark : ℕ) (hs : List History) (c : Course) (t : List Alert) (lines : List Numbered) (whats : List Answered) (made : List LineReply) → AreAnswersBeside hs c lines whats → AreMadeOf tells mark hs lines whats made
      → AreAlertsTold answers hs c t lines made
  block-alerts tells mark hs c t lines whats [] beside was = tt
  block-alerts tells mark hs c t [] whats (r ∷ made) beside was = absurd was
  block-alerts tells mark hs c t (l ∷ ls) [] (r ∷ made) beside was = absurd was
  block-alerts tells mark hs c t (l ∷ ls) (w ∷ ws) (r ∷ made) (answer, others) (one, rest) = (
    subst (λ (x : Answered). AreAllToldBy answers hs c t x) (sym one.what_is) (beside-none hs c t l.lane l.line w answer).0,
    subst (λ (x : Answered). AreAlertsTold answers hs (course_after hs c l.lane l.line x) (told_behind (course_after hs c l.lane l.line x) t x) ls made) (sym one.what_is)
        (block-alerts tells mark hs (course_after hs c l.lane l.line w) (told_behind (course_after hs c l.lane l.line w) t w) ls ws made others rest),
  )

told_both : (hs : List History) (c : Course) (t : List Alert) (lines : List Numbered) (rs made : List LineReply) → length rs ≤ length lines
    → told_of hs c t lines (rs ++ made) ≡ told_of hs (course_of hs c (take (length rs) lines) rs) (told_of hs c t lines rs) (drop (length rs) lines) made
told_both hs c t lines [] made fits = refl
told_both hs c t [] (r ∷ rs) made fits = absurd (omega (arith, fits))
told_both hs c t (l ∷ ls) (r ∷ rs) made fits =
    told_both hs (course_after hs c l.lane l.line r.what) (told_behind (course_after hs c l.lane l.line r.what) t r.what) ls rs made (omega (arith, fits))

told_front : (hs : List History) (c : Course) (t : List Alert) (n : ℕ) (lines : List Numbered) (made : List LineReply) → length made ≤ n → told_of hs c t (take n lines) made ≡ told_of hs c t lines made
told_front hs c t n lines [] few = refl
told_front hs c t zero lines (r ∷ made) few = absurd (omega (arith, few))
told_front hs c t (suc n) [] (r ∷ made) few = refl
told_front hs c t (suc n) (l ∷ ls) (r ∷ made) few = told_front hs (course_after hs c l.lane l.line r.what) (told_behind (course_after hs c l.lane l.line r.what) t r.what) n ls made (omega (arith, few))

-- in a block nothing more is told
keep : (b : Bool) (t x : List Alert) → x ≡ [] → (b ≡ true) ⊎ (t ≡ []) → (if b then t ++ x else []) ≡ t
keep true t x none which = ap (λ (l : List Alert). t ++ l) none ∙ append-nil t
keep false t x none (inl runs) = absurd (cc)
keep false t x none (inr empty) = sym empty

which-still : (b d : Bool) (t : List Alert) → d ≡ b → (b ≡ true) ⊎ (t ≡ []) → (d ≡ true) ⊎ (t ≡ [])
which-still b d t same (inl runs) = inl (same ∙ runs)
which-still b d t same (inr empty) = inr empty

block-told : (answers : AlertKind → ℕ → Bool → Type 0) (tells : Type 0) (mark : ℕ) (hs : List History) (c : Course) (t : List Alert) (lines : List Numbered) (whats : List Answered) (made : List LineReply) → All (λ line. line.lane ≢ InScript) lines
    → AreAnswersBeside hs c lines whats → AreMadeOf tells mark hs lines whats made → (c.running ≡ true) ⊎ (t ≡ []) → told_of hs c t lines made ≡ t
block-told answers tells mark hs c t lines whats [] lanes beside was which = refl
block-told answers tells mark hs c t [] whats (r ∷ made) lanes beside was which = absurd was
block-told answers tells mark hs c t (l ∷ ls) [] (r ∷ made) lanes beside was which = absurd was
block-told answers tells mark hs c t (l ∷ ls) (w ∷ ws) (r ∷ made) lanes (answer, others) (one, rest) which =
    let next = course_after hs c l.lane l.line w in
    let runs = (beside_after hs c l.lane (All-head (λ line. line.lane ≢ InScript) l ls lanes) l.line w answer).running in
    let still = which-still c.running next.running t runs which in
    ap (λ (x : Answered). told_of hs (course_after hs c l.lane l.line x) (told_behind (course_after hs c l.lane l.line x) t x) ls made) one.what_is
    ∙ ap (λ (s : List Alert). told_of hs next s ls made) (keep next.running t (alerts_in w) (beside-none answers hs c t l.lane l.line w answer).1 still)
    ∙ block-told answers tells mark hs next t ls ws made (All-tail (λ line. line.lane ≢ InScript) l ls lanes) others rest still

block-watched : {B : Type 0} (answers : AlertKind → ℕ → Bool → Type 0) (old new : State B) (past : Past) (t : List Alert) → AreGrown (histories_in old) (histories_in new) → IsBeside (course_in old) (course_in new) → IsWatching answers past (entries_in old) t
    → IsWatching answers (watched_by new past) (entries_in new) t
block-watched answers (Idle bank olds) (Idle left epochs) past t grown beside was = subst (λ (l : List Alert). IsWatching answers (past_of []) [] l) (sym (watching-idle answers past t was)) (watching-none answers)
block-watched answers (Running before olds) (Idle left epochs) past t grown beside was = absurd (let clash : false ≡ true = beside.running in cc)
block-watched answers (Idle bank olds) (Running array epochs) past t grown beside was = absurd (let clash : true ≡ false = beside.running in cc)
block-watched answers (Running before olds) (Running array epochs) past t grown beside was =
    let more = entries-on (Running before olds) (Running array epochs) grown (λ runs. beside.opened) refl in
    subst (λ (l : List Entry). IsWatching answers past l t) (sym more.1) (watching-grow answers past before.parts.entries more.0 t was)

block-which : {B : Type 0} (answers : AlertKind → ℕ → Bool → Type 0) (old : State B) (past : Past) (t : List Alert) → IsWatching answers past (entries_in old) t → ((course_in old).running ≡ true) ⊎ (t ≡ [])
block-which answers (Idle bank epochs) past t was = inr (watching-idle answers past t was)
block-which answers (Running array epochs) past t was = inl refl

-- what the replies behind the former ones tell was scanned
pub first-scanned : (answers : AlertKind → ℕ → Bool → Type 0) (entries : List Entry) (before next : Past) (olds news : List LineReply) (r : LineReply) → news ≡ olds ++ r ∷ [] → IsScanned answers entries before next r.what
    → IsFirstScanned answers entries before next (drop (length olds) news)
first-scanned answers entries before next olds news r more scan =
    subst (λ (rs : List LineReply). IsFirstScanned answers entries before next rs) (sym (ap (λ (rs : List LineReply). drop (length olds) rs) more ∙ drop-append_seam olds (r ∷ []))) scan

pub nothing-scanned : (answers : AlertKind → ℕ → Bool → Type 0) (entries : List Entry) (before next : Past) (olds news : List LineReply) → news ≡ olds → IsFirstScanned answers entries before next (drop (length olds) news)
nothing-scanned answers entries before next olds news same =
    subst (λ (rs : List LineReply). IsFirstScanned answers entries before next rs) (sym (ap (λ (rs : List LineReply). drop (length olds) rs) same ∙ drop-length olds)) tt

-- ---- a turn

first-is : (others : List Numbered) (count : ℕ) (first numbered : Numbered) → 1 ≤ count → take count (first ∷ others) ≡ numbered ∷ [] → first ≡ numbered
first-is others zero first numbered some is = absurd (omega (arith, some))
first-is others (suc count) first numbered some is = ap (λ (ls : List Numbered). get_or ls 0 first) is

module _ {B : Type 0} (answers : AlertKind → ℕ → Bool → Type 0) (was step : Setting) (lines : List Numbered) (old new : Session B) (past next : Past)
    (replies : AreReplies was (histories_in old.state) (at_rest 0) (take (length old.replies.items) lines) old.replies.items)
    (course : course_in old.state ≡ course_of (histories_in old.state) (at_rest 0) (take (length old.replies.items) lines) old.replies.items)
    (told : AreAlertsTold answers (histories_in old.state) (at_rest 0) [] lines old.replies.items)
    (watching : IsWatching answers past (entries_in old.state) (told_of (histories_in old.state) (at_rest 0) [] lines old.replies.items)) where
  abbrev n : ℕ
  n = length old.replies.items

  abbrev hs : List History
  hs = histories_in new.state

  abbrev told_then : List Alert
  told_then = told_of (histories_in old.state) (at_rest 0) [] lines old.replies.items

  abbrev told_now : List Alert
  told_now = told_of hs (at_rest 0) [] lines old.replies.items

  abbrev course_now : Course
  course_now = course_of hs (at_rest 0) (take n lines) old.replies.items

  -- what is so behind the turn
  abbrev IsToldSo : Type 0
  IsToldSo = AreAlertsTold answers hs (at_rest 0) [] lines new.replies.items
      × (new.stopped ≡ None → IsWatching answers (watched_by new.state next) (entries_in new.state) (told_of hs (at_rest 0) [] lines new.replies.items))

  still : AreGrown (histories_in old.state) hs → AreAlertsTold answers hs (at_rest 0) [] lines old.replies.items × (told_now ≡ told_then)
  still grown = alerts_stay answers was (histories_in old.state) hs (at_rest 0) [] n lines old.replies.items grown replies told

  course_still : AreGrown (histories_in old.state) hs → course_in old.state ≡ course_now
  course_still grown = course ∙ sym (courses_stay was (histories_in old.state) hs (at_rest 0) (take n lines) old.replies.items grown replies)

  -- no reply was made
  short : AreGrown (histories_in old.state) hs → new.replies.items ≡ old.replies.items → AreAlertsTold answers hs (at_rest 0) [] lines new.replies.items
  short grown same = subst (λ (rs : List LineReply). AreAlertsTold answers hs (at_rest 0) [] lines rs) (sym same) (still grown).0

  -- one was
  module _ (numbered : Numbered) (script : numbered.lane ≡ InScript) (lt : n < length lines) (here : get_or lines n numbered ≡ numbered) (reply : LineReply) (more : new.replies.items ≡ old.replies.items ++ reply ∷ [])
      (turn : IsTurn step old.state new.state numbered.line reply.what) (scan : IsScanned answers (entries_in old.state) past next reply.what) where
    behind : drop n lines ≡ numbered ∷ drop (suc n) lines
    behind = drop-cons lines n numbered lt ∙ ap (λ (l : Numbered). l ∷ drop (suc n) lines) here

    same_course : course_after hs course_now numbered.lane numbered.line reply.what ≡ course_in new.state
    same_course = ap (λ (l : Lane). course_after hs course_now l numbered.line reply.what) script
        ∙ ap (λ (c : Course). course_after hs c InScript numbered.line reply.what) (sym (course_still turn.grown)) ∙ sym turn.course

    one_all : AreAllToldBy answers hs course_now told_now reply.what
    one_all = subst (λ (c : Course). AreAllToldBy answers hs c told_now reply.what) (course_still turn.grown)
        (subst (λ (t : List Alert). AreAllToldBy answers hs (course_in old.state) t reply.what) (sym (still turn.grown).1)
        (line-all answers step old.state hs numbered.line (length step.tape) reply.what past next told_then turn.grown turn.answer watching scan))

    one_told : AreAlertsTold answers hs (at_rest 0) [] lines new.replies.items
    one_told = subst (λ (rs : List LineReply). AreAlertsTold answers hs (at_rest 0) [] lines rs) (sym more)
        (alerts_both answers hs (at_rest 0) [] lines old.replies.items (reply ∷ []) (omega (arith, lt)) (still turn.grown).0
        (subst (λ (ls : List Numbered). AreAlertsTold answers hs course_now told_now ls (reply ∷ [])) (sym behind) (one_all, tt)))

    told_is : told_of hs (at_rest 0) [] lines new.replies.items ≡ told_behind (course_in new.state) told_then reply.what
    told_is = ap (λ (rs : List LineReply). told_of hs (at_rest 0) [] lines rs) more
        ∙ told_both hs (at_rest 0) [] lines old.replies.items (reply ∷ []) (omega (arith, lt))
        ∙ ap (λ (ls : List Numbered). told_of hs course_now told_now ls (reply ∷ [])) behind
        ∙ ap (λ (c : Course). told_behind c told_now reply.what) same_course
        ∙ ap (λ (t : List Alert). told_behind (course_in new.state) t reply.what) (still turn.grown).1

    one_so : IsToldSo
    one_so = (
      one_told,
      λ going. subst (λ (t : List Alert). IsWatching answers (watched_by new.state next) (entries_in new.state) t) (sym told_is)
          (line-watched answers old.state new.state reply.what past next told_then (entries-on old.state new.state turn.grown (turn-opened step old.state new.state numbered.line reply.what turn)) watching scan),
    )

  module _ (count : ℕ) (some : 1 ≤ count) (fits : n + count ≤ length lines) {tells : Type 0} {old_taken new_taken : List ℕ} (scan : IsTurnScanned answers (entries_in old.state) past next (drop n new.replies.items) (take count (drop n lines))) where
    -- a line of its own
    line_so : IsLineStep tells step old new (take count (drop n lines)) old_taken new_taken → IsToldSo
    line_so line = by new.stopped refl line.step
      where
        lt : n < length lines
        lt = omega (arith, some, fits)

        here : get_or lines n line.numbered ≡ line.numbered
        here = first-is (drop (suc n) lines) count (get_or lines n line.numbered) line.numbered some (ap (λ (ls : List Numbered). take count ls) (sym (drop-cons lines n line.numbered lt)) ∙ line.is)

        scanned : (reply : LineReply) → new.replies.items ≡ old.replies.items ++ reply ∷ [] → IsScanned answers (entries_in old.state) past next reply.what
        scanned reply more = subst (λ (rs : List LineReply). IsFirstScanned answers (entries_in old.state) past next rs)
            (ap (λ (rs : List LineReply). drop n rs) more ∙ drop-append_seam old.replies.items (reply ∷ [])) (scan.alone line.numbered line.is line.script)

        by : (o : Option Stop) → new.stopped ≡ o → IsStep tells step old new line.numbered old_taken new_taken o → IsToldSo
        by None stop is = one_so line.numbered line.script lt here is.reply.made.reply is.reply.more is.reply.replied.turn (scanned is.reply.made.reply is.reply.more)
        by (Some WriteFault) stop is = one_so line.numbered line.script lt here is.reply.made.reply is.reply.more is.reply.replied.turn (scanned is.reply.made.reply is.reply.more)
        by (Some WantsMemory) stop is = (short is.none.grown is.same, λ going. absurd (let both : Some WantsMemory ≡ None = sym stop ∙ going in cc))

    -- a block
    module _ (did : IsBlockStep tells step old new (take count (drop n lines)) old_taken new_taken) where
      abbrev block : List Numbered
      block = take count (drop n lines)

      abbrev made : List LineReply
      made = did.shown.shown.made

      grown : AreGrown (histories_in old.state) hs
      grown = did.answered.turn.grown

      beside : AreAnswersBeside hs course_now block did.whats
      beside = subst (λ (c : Course). AreAnswersBeside hs c block did.whats) (course_still grown) did.answered.answers

      block_all : AreAlertsTold answers hs (at_rest 0) [] lines new.replies.items
      block_all = subst (λ (rs : List LineReply). AreAlertsTold answers hs (at_rest 0) [] lines rs) (sym did.shown.shown.more)
          (alerts_both answers hs (at_rest 0) [] lines old.replies.items made (omega (arith, fits)) (still grown).0
          (alerts_front answers hs course_now told_now count (drop n lines) made (block-alerts answers step.tells (length step.tape) hs course_now told_now block did.whats made beside did.shown.shown.told)))

      few : length made ≤ count
      few =
          let most = (made-few step.tells (length step.tape) hs block did.whats made did.shown.shown.told).0 in
          let long = length-take-le count (drop n lines) (let rest = length-drop n lines in omega (arith, rest, fits)) in
          omega (arith, most, long)

      which : (course_now.running ≡ true) ⊎ (told_now ≡ [])
      which = subst (λ (t : List Alert). (course_now.running ≡ true) ⊎ (t ≡ [])) (sym (still grown).1)
          (subst (λ (c : Course). (c.running ≡ true) ⊎ (told_then ≡ [])) (course_still grown) (block-which answers old.state past told_then watching))

      told_same : told_of hs (at_rest 0) [] lines new.replies.items ≡ told_then
      told_same = ap (λ (rs : List LineReply). told_of hs (at_rest 0) [] lines rs) did.shown.shown.more
          ∙ told_both hs (at_rest 0) [] lines old.replies.items made (omega (arith, fits))
          ∙ sym (told_front hs course_now told_now count (drop n lines) made few)
          ∙ block-told answers step.tells (length step.tape) hs course_now told_now block did.whats made (block-lanes block did.block) beside did.shown.shown.told which
          ∙ (still grown).1

      block_on : IsWatching answers (watched_by new.state next) (entries_in new.state) (told_of hs (at_rest 0) [] lines new.replies.items)
      block_on = subst (λ (t : List Alert). IsWatching answers (watched_by new.state next) (entries_in new.state) t) (sym told_same)
          (subst (λ (p : Past). IsWatching answers (watched_by new.state p) (entries_in new.state) told_then) (sym (scan.block did.block))
          (block-watched answers old.state new.state past told_then grown did.answered.turn.course watching))

      block_so : IsToldSo
      block_so = (block_all, λ going. block_on)

    pub turn_so : IsTurnStep tells step old new (take count (drop n lines)) old_taken new_taken → IsToldSo
    turn_so (inl line) = line_so line
    turn_so (inr did) = block_so did
