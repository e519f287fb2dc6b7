-- An update that makes a slot a spare keeps an array safe: each image is seen as before it, or without the slots that were lost, and at its end it
-- is held, or no live slot is left.
use Rattle.std.proofs.Common.{◌≡◌, ◌≢◌, ◌⊎◌, inl, inr, ⊎_elim, ℕ, ◌+◌, ◌^◌, ◌<◌, ◌≤◌, ◌==◌, ◌||◌, ◌&&◌, Bool, true, false, not, cond, nat_lt, bit_or, take, take_all, le_refl, List, length, get_or, Option, Some, None, replicate, refl, sym, ◌∙◌, ap, subst, arith}
use Rattle.std.specs.Prelude.{⊤, bytes_eq}
use Rattle.std.specs.List.{list_any}
use Rattle.std.proofs.lemmas.Bool.{cases_eq, cases_lt}
use Rattle.std.proofs.lemmas.Bool.Decides.{nat_tests}
use Rattle.sb_safe_updates.specs.raid_types_Sectors.{Sector}
use Rattle.sb_safe_updates.specs.raid_types_Shapes.{has_slot}
use Rattle.sb_safe_updates.specs.raid_types_the_Role.{Role}
use Rattle.sb_safe_updates.specs.raid_types_the_Role_TheVariants.{Missing}
use Rattle.sb_safe_updates.specs.sb_codec_the_Sb.{Sb}
use Rattle.sb_safe_updates.specs.bank_the_Operation.{Operation}
use Rattle.sb_safe_updates.specs.bank_Given.{Given}
use Rattle.sb_safe_updates.specs.bank_Tape.{Contents, IsIn, disk}
use Rattle.sb_safe_updates.proofs.bank_Laws.{kept_in}
use Rattle.sb_safe_updates.specs.sb_specs_the_Members.{Members}
use Rattle.sb_safe_updates.specs.sb_specs_Reading.{Scope, Reading, reading, reading_by, is_seen, is_whole, role_state, holder}
use Rattle.sb_safe_updates.specs.sb_specs_Update.{own_in, planned, give_of, is_held_by}
use Rattle.sb_safe_updates.specs.sb_specs_Updating.{IsSomeLeft}
use Rattle.sb_safe_updates.specs.sb_specs_Outcome.{live_set, with_added, IsStored, IsPlannedOwn, is_in_update, is_left}
use Rattle.sb_safe_updates.specs.sb_specs_Crash.{IsWithin}
use Rattle.sb_safe_updates.specs.stripe_row_Rows.{reading_of, members_without}
use Rattle.sb_safe_updates.specs.array_members_Placed.{IsPlaced, AreLess}
use Rattle.sb_safe_updates.specs.array_members_Rebuilding.{with_spare, AreSparesFree}
use Rattle.sb_safe_updates.specs.crash_safety_laws_Steady.{AreUnlost, AreGoneTold, with_number, IsSteady, IsSpent, IsSafeStretch, AreViewsRight}
use Rattle.sb_safe_updates.specs.array_members_Lacking.{AreUnnamed}
use Rattle.sb_safe_updates.specs.crash_safety_laws_Marking.{adding, marking}
use Rattle.sb_safe_updates.specs.array_members_Numbers.{IsSpareSb, IsOfScope}
use Rattle.sb_safe_updates.specs.array_members_Moving.{IsMoved}
use Rattle.sb_safe_updates.specs.crash_views_Regions.{IsReadOf}
use Rattle.sb_safe_updates.specs.crash_views_Views.{Disk, Ledger, IsViewRight}
use Rattle.sb_safe_updates.specs.crash_views_Windows.{IsUpdating}
use Rattle.sb_safe_updates.proofs.crash_views_Alike.{backup-alike}
use Rattle.sb_safe_updates.proofs.crash_views_WindowLaws.{updating-right}
use Rattle.sb_safe_updates.specs.sb_codec_Superblock.{checksum}
use Rattle.sb_safe_updates.specs.sb_specs_the_Give.{Give}
use Rattle.sb_safe_updates.specs.sb_specs_the_Give_TheVariants.{Same}
use Rattle.sb_safe_updates.specs.sb_specs_Reads.{SaysSame, has_spare, IsReadAs}
use Rattle.sb_safe_updates.specs.sb_specs_Held.{IsStamped, IsSecondHalf, AreDrawn, said_by}
use Rattle.sb_safe_updates.specs.sb_specs_Stages.{AreLeft, AreKept}
use Rattle.sb_safe_updates.specs.sb_specs_Rounds.{round_at}
use Rattle.sb_safe_updates.specs.sb_read_laws_Following.{AreHeldAlone}
use Rattle.sb_safe_updates.specs.sb_read_laws_Said.{AreSaid}
use Rattle.sb_safe_updates.proofs.sb_read_laws_Following.{next-held}
use Rattle.sb_safe_updates.proofs.sb_read_laws_RoundReads.{left_set, left-are}
use Rattle.sb_safe_updates.proofs.sb_specs_SlotSets.{has-set_of, none_there}
use Rattle.sb_safe_updates.proofs.sb_read_laws_StageReads.{held-reads}
use Rattle.sb_safe_updates.specs.sb_specs_Adding.{IsReadAsPlannedBut, IsReadInAdding, IsReadyToAdd}
use Rattle.sb_safe_updates.proofs.sb_specs_ReadAlike.{count-same, tabulate-same}
use Rattle.sb_safe_updates.proofs.sb_specs_ReadLists.{by_bool}
use Rattle.sb_safe_updates.proofs.sb_specs_HeldReads.{known_at}
use Rattle.sb_safe_updates.proofs.sb_read_laws_UpTo.{rounds-parts, end-room}
use Rattle.sb_safe_updates.proofs.sb_update_laws_AddedReads.{added-before, added-fit}
use Rattle.sb_safe_updates.proofs.sb_update_laws_AddedRounds.{in-first-reads, rounds-read, rounds-end, wider}
use Rattle.sb_safe_updates.specs.crash_safety_laws_Held.{IsHeldBy}
use Rattle.sb_safe_updates.specs.crash_safety_laws_Carried.{AreCarried}
use Rattle.sb_safe_updates.specs.crash_safety_laws_Safety.{HasMarkRoom}
use Rattle.sb_safe_updates.proofs.array_members_AddedMembers.{own-here, own-other, live-with, placed-with}
use Rattle.sb_add_spare.proofs.AddedNamed.{named-held}
use Rattle.sb_add_spare.proofs.AddedSaid.{said-added, roles-are, spares-are}
use Rattle.sb_add_spare.proofs.AddedStarts.{says-later, slot-unknown, live-known, starts as adding-starts}
use Rattle.sb_add_spare.proofs.AddedViews.{with-less, less-view}
use Rattle.sb_safe_updates.proofs.MissingLaws.{missing-more}
use Rattle.sb_add_spare.proofs.SaidReads.{read-of}
use Rattle.sb_add_spare.proofs.AddedUpdates.{IsAddedBy, added-less, added-spares, added-moved, left-in-adding}
use Rattle.sb_safe_updates.proofs.crash_safety_laws_Carried.{IsRewritable, known-rewritable, numbers-touched}
use Rattle.sb_safe_updates.proofs.MarkEnds.{some-or-none as mark-left}
use Rattle.sb_safe_updates.proofs.crash_safety_laws_Without.{state-without, without-none, in-both, any-without, live-is}
use Rattle.sb_safe_updates.proofs.array_members_SafeStretch.{gone-before}
use Rattle.sb_safe_updates.proofs.crash_safety_laws_Stretch.{seen-own}
use Rattle.sb_safe_updates.proofs.crash_safety_laws_ChangeViews.{known-read, placed-less}
use Rattle.sb_safe_updates.proofs.crash_safety_laws_Drawn.{disk-somewhere, views-right}
use Rattle.sb_safe_updates.proofs.crash_safety_laws_KeptSafe.{fits-alike, without-right, steady-right}
use Rattle.sb_safe_updates.proofs.crash_safety_laws_LessViews.{less-right}
use Rattle.sb_safe_updates.proofs.crash_safety_laws_Since.{since-none}
use Rattle.sb_safe_updates.specs.crash_safety_laws_Updates.{IsLessView}
use Rattle.sb_safe_updates.proofs.SparesLaws.{spares-are as mark-spares}

-- The array is read there, as one of these members say.
record IsReadAmong (scope : Scope) (P : Members → Type 0) (c : Contents) : Type 0 where
  pub found : Reading
  pub is : reading scope c ≡ Some found
  pub members : Members
  pub among : P members
  pub same : IsReadOf scope members found

-- ---- the update

module _ (sound : Type 0) (scope : Scope) (given : Given) (told : Ledger) (former : Members) (missed : ℕ) (new : Members) (slot : ℕ) (sb : Sb) (before after : List Operation)
    (did : IsAddedBy ⊤ given slot sb (members_without missed former) new before after) (held : IsHeldBy scope former (disk given.start before)) (unmissed : has_slot missed slot ≡ false)
    (placed : IsPlaced given (members_without missed former)) (with_placed : IsPlaced given (with_spare slot sb (members_without missed former))) (made : IsSpareSb given former.newest slot sb)
    (below : slot < 32) (long : length former.own ≡ 32) (small : bit_or former.lost missed < 2 ^ 32) (untaken : (role : ℕ) → holder (role_state (reading_of (members_without missed former)) role) ≡ Some slot → ⊥)
    (unknown : has_slot held.known slot ≡ false) (left : ℕ)
    (ready : former.newest.events + 1 < 2 ^ 62 → IsReadyToAdd scope held.known left (bit_or former.lost missed) (with_added (members_without missed former) (Some (slot, sb))) (adding (members_without missed former) slot sb)
    (live_set (members_without missed former) (adding (members_without missed former) slot sb)) slot (disk given.start before))
    (room : HasMarkRoom (members_without missed former) before after) (gone : AreGoneTold told new) (right-first : IsViewRight sound scope given told former (disk given.start before))
    (seen : is_seen scope slot ≡ true) (known-live : (s : ℕ) → s ≢ slot → has_slot (live_set (members_without missed former) (adding (members_without missed former) slot sb)) s ≡ true → has_slot held.known s ≡ true)
    (carried : AreCarried scope told.carried former.own (disk given.start before)) where
  abbrev m : Members
  m = members_without missed former

  abbrev Start : Disk
  Start = disk given.start before

  abbrev Live : ℕ
  Live = live_set m (adding m slot sb)

  abbrev Kept : List (Option Sb)
  Kept = (with_spare slot sb m).own

  abbrev More : Ledger
  More = with_number slot sb.dev_number told

  less : AreLess new.lost (with_spare slot sb m) new
  less = added-less did placed

  -- the array's fields stay
  says : SaysSame m.newest new.newest
  says = says-later m.newest new.newest did.newest

  few-events : IsSomeLeft Live new.lost ⊎ (length before < length after) → new.newest.events < 2 ^ 62
  few-events grew = let rise = did.rise tt grew in omega (arith, rise, room)

  first-room : new.newest.events < 2 ^ 62 → m.newest.events + 1 < 2 ^ 62
  first-room few = let later = did.newest.events in omega (arith, later, few)

  since : (named : ℕ) → IsWithin named new.lost → (s : ℕ) → has_slot named s ≡ true → has_slot (with_spare slot sb m).lost s ≡ false → has_slot Live s ≡ true
  since named within s is none = did.live s (within s is) none

  -- ---- what is read

  -- as before, or without slots that were lost
  abbrev Among : Members → Type 0
  Among v = (v ≡ former) ⊎ ((lost : ℕ) × IsWithin lost new.lost × (v ≡ members_without lost (with_spare slot sb m)))

  said-first : said_by scope held.known Kept m.newest ≡ said_by scope held.known m.own m.newest
  said-first = ap (λ (l : List (Option Sb)). reading_by scope.sizes.sectors l m.newest)
      (tabulate-same scope.sizes.slots (known_at held.known Kept) (λ s. known_at held.known m.own s) (λ s lt. of s (has_slot held.known s) refl))
    where
      of : (s : ℕ) (b : Bool) → has_slot held.known s ≡ b → cond b (own_in Kept s) None ≡ cond b (own_in m.own s) None
      of s true is = own-other m slot sb s (λ same. absurd (let e = sym (subst (λ (t : ℕ). has_slot held.known t ≡ true) same is) ∙ unknown in cc))
      of s false none = refl

  before-read : (lost : ℕ) (c : Contents) → IsReadAs scope lost (said_by scope held.known Kept m.newest) c → IsReadAmong scope Among c
  before-read lost c r = of (subst (λ (q : Reading). IsReadAs scope lost q c) said-first r)
    where
      of : IsReadAs scope lost (said_by scope held.known m.own m.newest) c → IsReadAmong scope Among c
      of read = record {
        found = read.found;
        is = read.is;
        members = former;
        among = inl refl;
        same = known-read scope held.known former held.said lost c read;
      }

  planned-read : new.newest.events < 2 ^ 62 → (c : Contents) (Unnamed : ℕ → Type 0) → ((s : ℕ) → Unnamed s → s ≡ slot)
      → IsReadAsPlannedBut scope (with_added m (Some (slot, sb))) (adding m slot sb) (with_spare slot sb m).lost Live new.lost Unnamed c → IsReadAmong scope Among c
  planned-read few c Unnamed only r = record {
    found = r.reads.found;
    is = r.reads.is;
    members = members_without r.named (with_spare slot sb m);
    among = inr (r.named, r.within, refl);
    same = read-of scope r.lost (members_without r.named (with_spare slot sb m)) (said_by scope r.left r.own r.newest) c
        (said-added scope given former missed slot sb Start held unmissed placed made below long small left (ready (first-room few)) r.named r.gone r.left r.newest r.own r.more (since r.named r.within) r.later r.plan r.table r.are r.kept r.named_gone
        (λ s is. ⊎_elim (λ n. inl n) (λ u. inr (only s u)) (r.unnamed s is)))
        r.reads;
  }

  in-adding : new.newest.events < 2 ^ 62 → (c : Contents) (Unnamed : ℕ → Type 0) → ((s : ℕ) → Unnamed s → s ≡ slot)
      → IsReadInAdding scope held.known (with_added m (Some (slot, sb))) (adding m slot sb) (with_spare slot sb m).lost Live new.lost slot Start Unnamed c → IsReadAmong scope Among c
  in-adding few c Unnamed only r = ⊎_elim (λ b. before-read b.1.lost c b.1.reads) (λ p. planned-read few c Unnamed only p) r

  at-mark : new.newest.events < 2 ^ 62 → (n : ℕ) → length before ≤ n → n ≤ length after → (c : Contents) → AreDrawn (disk given.start (take n after)) c → IsReadAmong scope Among c
  at-mark few n low high c drawn =
      let M = with_added m (Some (slot, sb)) in
      let start = ready (first-room few) in
      ⊎_elim
      (λ catching. before-read m.lost c (added-before scope M (adding m slot sb) (with_spare slot sb m).lost Live held.known left m.lost slot Start start (disk given.start (take n after)) c catching drawn))
      (λ later. ⊎_elim
      (λ first. in-adding few c (λ s. (s ≡ slot) × IsIn (Start slot 8) (c slot 8)) (λ s u. u.0) (wider scope held.known M (adding m slot sb) (with_spare slot sb m).lost Live slot Start (λ s. (s ≡ slot) × IsIn (Start slot 8) (c slot 8)) first.0.mid.lost new.lost c first.1
      (in-first-reads scope M (adding m slot sb) (with_spare slot sb m).lost Live held.known left m.lost slot Start start (disk given.start (take n after)) c first.0 drawn)))
      (λ naming. in-adding few c (λ s. s ≡ slot) (λ s u. u) (wider scope held.known M (adding m slot sb) (with_spare slot sb m).lost Live slot Start (λ s. s ≡ slot) naming.2.0.start.lost new.lost c naming.2.1
      (rounds-read scope M (adding m slot sb) (with_spare slot sb m).lost Live held.known left m.lost slot Start start naming.0 (disk given.start (take n after)) c naming.1 naming.2.0 naming.2.2 drawn)))
      later)
      (rounds-parts M (adding m slot sb) (with_spare slot sb m).lost Live new.lost new.newest.events Start (disk given.start (take n after)) few (did.rounds.each tt n low high))

  -- where nothing was done it is read as before
  start-read : (c : Contents) → AreDrawn Start c → IsReadAmong scope Among c
  start-read c drawn =
      let read = held.updated.reads c drawn in
      record { found = read.found; is = read.is; members = former; among = inl refl; same = known-read scope held.known former held.said former.lost c read }

  read-at : (n : ℕ) → length before ≤ n → n ≤ length after → (c : Contents) → AreDrawn (disk given.start (take n after)) c → IsReadAmong scope Among c
  read-at n low high c drawn = elim (cases_lt (length before) (length after)) [
    | inl more ↦ at-mark (few-events (inr more)) n low high c drawn
    | inr short ↦ start-read c (subst (λ (tape : List Operation). AreDrawn (disk given.start tape) c)
        (take_all n after (omega (arith, short, low)) ∙ sym (take_all (length before) after short) ∙ did.rounds.earlier tt) drawn)
  ]

  -- ---- each view is right

  -- what is missing before is told too
  moved : IsMoved given (with_spare slot sb m) new
  moved = added-moved did placed with_placed did.held

  gone-first : AreGoneTold told m
  gone-first = gone-before given (with_spare slot sb m) new with_placed moved told gone

  right : IsViewRight sound scope given told m Start
  right = without-right sound scope given told former missed Start right-first gone-first

  -- the new number is told too
  first-more : IsViewRight sound scope given More former Start
  first-more = record {
    placed = right-first.placed;
    sized = right-first.sized;
    gone = right-first.gone;
    unclean = right-first.unclean;
    reshaping = right-first.reshaping;
    held = right-first.held;
    sections = right-first.sections;
    settled = right-first.settled;
    headers = right-first.headers;
    tails = right-first.tails;
  }

  right-more : IsViewRight sound scope given More m Start
  right-more = record {
    placed = right.placed;
    sized = right.sized;
    gone = right.gone;
    unclean = right.unclean;
    reshaping = right.reshaping;
    held = right.held;
    sections = right.sections;
    settled = right.settled;
    headers = right.headers;
    tails = right.tails;
  }

  -- the new spare has no part in it
  spare-less : IsLessView m (with_spare slot sb m)
  spare-less = with-less m slot sb untaken

  right-with : IsViewRight sound scope given More (with_spare slot sb m) Start
  right-with = less-right sound scope given More m (with_spare slot sb m) Start spare-less
      (placed-less scope given m (with_spare slot sb m) spare-less right.placed.fit right.placed.backup right.placed) right.gone right-more

  -- a role that lost its slot is missing in the end
  gone-without : (lost : ℕ) → IsWithin lost new.lost → AreGoneTold told (members_without lost (with_spare slot sb m))
  gone-without lost within role lt missing = gone role (let same = count-same m.newest new.newest says in omega (arith, lt, same))
      (ap (λ (s : Role). not (is_whole s)) (ap (λ (l : List Role). get_or l role Missing) less.roles ∙ state-without new.lost m.roles role)
      ∙ missing-more lost new.lost within (get_or m.roles role Missing) (ap (λ (s : Role). not (is_whole s)) (sym (state-without lost m.roles role)) ∙ missing))

  right-without : (lost : ℕ) → IsWithin lost new.lost → IsViewRight sound scope given More (members_without lost (with_spare slot sb m)) Start
  right-without lost within = without-right sound scope given More (with_spare slot sb m) lost Start right-with (gone-without lost within)

  -- the slots that are written aren't the backup's
  no-backup : (s : ℕ) → has_slot Live s ≡ true → scope.backup ≡ Some s → ⊥
  no-backup s live = elim (cases_eq s slot) [
    | inl same ↦ seen-own scope s (ap (is_seen scope) same ∙ seen)
    | inr other ↦ seen-own scope s (held.updated.held.each s (known-live s other live)).seen
  ]

  updating : (n : ℕ) → length before ≤ n → n ≤ length after → IsUpdating scope Start (disk given.start (take n after))
  updating n low high s k = let touched = (did.update.marks.each tt n low high).touched in elim (cases_eq k 8) [
    | inl same ↦ ⊎_elim (λ live. inr (same, no-backup s live))
        (λ dead. inl (λ v is. subst (λ (l : List Sector). IsIn l v) (touched.others s k dead) is))
        (by_bool (has_slot Live s))
    | inr other ↦ inl (λ v is. kept_in (Start s k) (disk given.start (take n after) s k) v (touched.elsewhere s k other) is)
  ]

  view-at : (n : ℕ) → length before ≤ n → n ≤ length after → (view : Members) → IsViewRight sound scope given More view Start → IsViewRight sound scope given More view (disk given.start (take n after))
  view-at n low high view is = updating-right sound scope given More view Start (disk given.start (take n after)) (disk-somewhere given before) (updating n low high) is

  seen-at : (n : ℕ) → length before ≤ n → n ≤ length after → AreViewsRight sound scope given More (disk given.start (take n after))
  seen-at n low high = views-right sound scope given More (disk given.start (take n after)) (disk-somewhere given (take n after)) (λ c drawn.
      let read = read-at n low high c drawn in
      record {
        found = read.found;
        is = read.is;
        view = read.members;
        same = read.same;
        right = view-at n low high read.members (⊎_elim (λ is. subst (λ (v : Members). IsViewRight sound scope given More v Start) (sym is) first-more)
            (λ r. subst (λ (v : Members). IsViewRight sound scope given More v Start) (sym r.2) (right-without r.0 r.1)) read.among);
      })

  -- what holds at each mark holds at the end
  at-end : (P : Disk → Type 0) → ((n : ℕ) → length before ≤ n → n ≤ length after → P (disk given.start (take n after))) → P (disk given.start after)
  at-end P each = subst (λ (tape : List Operation). P (disk given.start tape)) (take_all (length after) after (le_refl (length after))) (each (length after) (did.update.marks.longer tt) (le_refl (length after)))

  -- ---- the end

  -- the number that is new is told, and the others were
  numbers-with : AreCarried scope More.carried Kept Start
  numbers-with = record { kept = kept; shown = λ s x may. either (told.carried s x.dev_number) ((s == slot) && (x.dev_number == sb.dev_number)) (inl (carried.shown s x may)) }
    where
      either : (a b : Bool) → (a ≡ true) ⊎ (b ≡ true) → (a || b) ≡ true
      either true b is = refl
      either false true is = refl
      either false false (inl is) = absurd (cc)
      either false false (inr is) = absurd (cc)

      kept : (s : ℕ) (x : Sb) → own_in Kept s ≡ Some x → More.carried s x.dev_number ≡ true
      kept s x is = elim (cases_eq s slot) [
        | inl same ↦
            let two : Some (record sb { events = m.newest.events }) ≡ Some x = sym (own-here m slot sb below long) ∙ ap (own_in Kept) (sym same) ∙ is in
            let number : x.dev_number ≡ sb.dev_number = (let e : record sb { events = m.newest.events } ≡ x = cc in ap (λ (y : Sb). y.dev_number) (sym e)) in
            either (told.carried s x.dev_number) ((s == slot) && (x.dev_number == sb.dev_number)) (inr (grind (arith, nat_tests, same, number)))
        | inr other ↦ either (told.carried s x.dev_number) ((s == slot) && (x.dev_number == sb.dev_number)) (inl (carried.kept s x (sym (own-other m slot sb s other) ∙ is)))
      ]

  module _ (some : IsSomeLeft Live new.lost) where
    few : new.newest.events < 2 ^ 62
    few = few-events (inl some)

    starts : IsReadyToAdd scope held.known left m.lost (with_added m (Some (slot, sb))) (adding m slot sb) Live slot Start
    starts = ready (first-room few)

    rewritable : (s : ℕ) → has_slot Live s ≡ true → has_slot (with_spare slot sb m).lost s ≡ false → IsRewritable scope (own_in Kept s) s Start
    rewritable s live there = elim (cases_eq s slot) [
      | inl same ↦ subst (λ (t : ℕ). IsRewritable scope (own_in Kept t) t Start) (sym same) (record {
        seen = starts.new.seen;
        long = starts.new.long;
        array = λ own is. subst (λ (x : Sb). bytes_eq x.set_uuid scope.uuid ≡ true) (some-same starts.sb own (sym starts.is ∙ is)) starts.new.array;
        second = λ own sector is may. subst (λ (x : Sb). IsSecondHalf x sector) (some-same starts.sb own (sym starts.is ∙ is)) (starts.new.second sector may);
      })
      | inr other ↦ known-rewritable scope m.newest (own_in Kept s) s Start (starts.held.each s (starts.within s other live))
    ]
      where
        some-same : (a b : Sb) → ◌≡◌ {A = Option Sb} (Some a) (Some b) → a ≡ b
        some-same a b e = cc

    numbers-end : AreCarried scope More.carried new.own (disk given.start after)
    numbers-end = numbers-touched scope More.carried m.newest new.newest (adding m slot sb) Kept new.own Live (with_spare slot sb m).lost (is_left Live new.lost) Start (disk given.start after)
        (did.update.end tt).touched did.own rewritable numbers-with

    live-small : (s : ℕ) → has_slot Live s ≡ true → s < 32
    live-small s is = of (nat_lt s 32) (is_in_update m (adding m slot sb) s) refl (sym (has-set_of 32 (is_in_update m (adding m slot sb)) s) ∙ is)
      where
        of : (a b : Bool) → nat_lt s 32 ≡ a → (a && b) ≡ true → s < 32
        of true b e and = grind (arith, nat_tests, e)
        of false b e and = absurd (cc)

    abbrev Rest : ℕ
    Rest = left_set 32 Live new.lost

    rest-are : AreLeft Live new.lost Rest
    rest-are = left-are 32 Live new.lost live-small

    alone : AreHeldAlone scope Rest new.lost new.newest new.own (disk given.start after)
    alone =
        let M = with_added m (Some (slot, sb)) in
        let past = did.past tt in
        let last = round_at new.newest new.lost given.start after in
        let space = end-room M (adding m slot sb) (with_spare slot sb m).lost Live Start last past few in
        let at = rounds-end scope M (adding m slot sb) (with_spare slot sb m).lost Live held.known left m.lost slot Start starts past.first last past.named.0 past.past past.named.1 space some in
        next-held scope M (adding m slot sb) (with_spare slot sb m).lost Live held.known left (λ s. s ≡ slot) (added-fit scope M (adding m slot sb) (with_spare slot sb m).lost Live held.known left m.lost slot Start starts)
        past.named.0 last at (did.named some) new.own did.own Rest rest-are

    kept : AreKept new.newest (replicate 32 Same) Kept Rest new.own
    kept s x is own_is = stamped (give_of (replicate 32 Same) s) (own_in new.own s)
        (subst (λ (o : Option Sb). IsPlannedOwn new.newest (give_of (replicate 32 Same) s) o (own_in new.own s)) own_is (did.own.written s (sym (rest-are s) ∙ is)))
      where
        stamped : (g : Give) (stored : Option Sb) → IsStored (planned new.newest g x) stored → IsStamped (planned new.newest g x) stored
        stamped g stored st = (checksum st.bytes, st.own ∙ ap (λ (z : Sb). Some z) st.fields)

    said : AreSaid scope Rest new
    said = record {
      roles = less.roles
          ∙ sym (roles-are scope given former missed slot sb Start held unmissed placed made below long small left starts new.lost Rest new.newest new.own did.stay (since new.lost (λ s is. is)) did.newest (did.named some) alone.held.table rest-are kept);
      spares = did.spares
          ∙ sym (spares-are scope given former missed slot sb Start held unmissed placed made below long small left starts new.lost Rest new.newest new.own did.stay (since new.lost (λ s is. is)) did.newest (did.named some) alone.held.table rest-are kept);
    }

    live-new : AreLeft (live_set new (marking new false)) new.lost Rest
    live-new s =
        rest-are s
        ∙ ap (λ (b : Bool). b && not (has_slot new.lost s)) (live-with m slot sb false s ∙ live-is (with_spare slot sb m) false s)
        ∙ taut (nat_lt s 32) (list_any (is_held_by s) m.roles) (has_spare (with_spare slot sb m).spares s) (has_slot new.lost s)
        ∙ sym (
        ap (λ (b : Bool). b && not (has_slot new.lost s)) (live-is new false s)
        ∙ (λ i. (nat_lt s 32 && ((held-new i || mark-spares (with_spare slot sb m) false new.lost new.spares (added-spares did false) s i) || false)) && not (has_slot new.lost s))
        )
      where
        held-new : list_any (is_held_by s) new.roles ≡ (not (has_slot new.lost s) && list_any (is_held_by s) m.roles)
        held-new = ap (λ (l : List Role). list_any (is_held_by s) l) less.roles ∙ any-without new.lost s m.roles

        taut : (a r p l : Bool) → ((a && ((r || p) || false)) && not l) ≡ ((a && (((not l && r) || (a && (not l && (p || false)))) || false)) && not l)
        taut false r p l = refl
        taut true true true true = refl
        taut true true false true = refl
        taut true true p false = refl
        taut true false true true = refl
        taut true false true false = refl
        taut true false false true = refl
        taut true false false false = refl

    held-new : IsHeldBy scope new (disk given.start after)
    held-new = record {
      known = Rest;
      live = live-new;
      updated = record {
        held = alone.held;
        exact = alone.exact;
        reads = λ c drawn. held-reads scope Rest new.lost new.newest new.own (disk given.start after) alone.held Rest (λ s is. is) c drawn;
      };
      said = said;
    }

    -- the members at the end have no more than those with the spare
    end-less : IsLessView (with_spare slot sb m) new
    end-less = less-view new.lost (with_spare slot sb m) new less says

    end-right : IsViewRight sound scope given More new Start
    end-right = less-right sound scope given More (with_spare slot sb m) new Start end-less
        (placed-less scope given (with_spare slot sb m) new end-less (fits-alike m.newest new.newest says right.placed.fit) (sym (backup-alike m.newest new.newest says scope) ∙ right.placed.backup) right-with.placed)
        gone right-with

    next-steady : IsSteady sound scope given More new (disk given.start after)
    next-steady = record {
      former = new;
      since = since-none scope new (disk given.start after) held-new;
      right = at-end (IsViewRight sound scope given More new) (λ n low high. view-at n low high new end-right);
      numbers = numbers-end;
    }

  next-spent : (IsSomeLeft Live new.lost → ⊥) → IsSpent sound scope given More new (disk given.start after)
  next-spent none = record { right = at-end (AreViewsRight sound scope given More) seen-at; none = λ live. none (left-in-adding did placed live) }

  -- a live slot is left, or none
  some-or-none : IsSomeLeft Live new.lost ⊎ (IsSomeLeft Live new.lost → ⊥)
  some-or-none = ⊎_elim (λ some. inl (some.0, live-with m slot sb false some.0 ∙ some.1, some.2)) (λ none. inr (λ some. none (some.0, sym (live-with m slot sb false some.0) ∙ some.1, some.2)))
      (mark-left (with_spare slot sb m) false new.lost)

  pub added-safe : IsSafeStretch sound scope given More new before after
  added-safe = record {
    marks = record { longer = did.update.marks.longer; earlier = did.update.marks.earlier; each = λ one n low high. seen-at n low high };
    next = ⊎_elim (λ some. inl (next-steady some)) (λ none. inr (next-spent none)) some-or-none;
  }

-- ---- from where it is safe

-- What is known of the slot, and of the superblock that it gets.
pub record IsAddableTo (scope : Scope) (given : Given) (told : Ledger) (m : Members) (slot : ℕ) (sb : Sb) (d : Disk) : Type 0 where
  pub few : given.slots ≤ 32
  pub there : slot < given.slots
  pub long : length m.own ≡ 32
  pub small : m.lost < 2 ^ 32
  pub untaken : (role : ℕ) → holder (role_state (reading_of m) role) ≡ Some slot → ⊥
  pub unspare : has_spare m.spares slot ≡ false
  pub made : IsSpareSb given m.newest slot sb
  pub of_scope : IsOfScope scope given slot sb
  pub unknown : (s : ℕ) → told.carried s sb.dev_number ≡ false
  pub second : (sector : Sector) → IsIn (d slot 9) sector → IsSecondHalf sb sector

module _ (sound : Type 0) (scope : Scope) (given : Given) (told : Ledger) (new : Members) (slot : ℕ) (sb : Sb) (before after : List Operation) where
  -- from where it is safe, of these members
  abbrev AddsSafely : Members → Type 0
  AddsSafely m = IsPlaced given m → AreUnlost m → AreSparesFree given m → IsAddableTo scope given told m slot sb (disk given.start before) → IsAddedBy ⊤ given slot sb m new before after
      → HasMarkRoom m before after → AreGoneTold told new → IsSafeStretch sound scope given (with_number slot sb.dev_number told) new before after

  -- by former members, of which slots may be lost that aren't named yet, but not this one
  adding-from : (former : Members) (missed : ℕ) → has_slot missed slot ≡ false → IsHeldBy scope former (disk given.start before) → IsViewRight sound scope given told former (disk given.start before)
      → AreCarried scope told.carried former.own (disk given.start before) → AddsSafely (members_without missed former)
  adding-from former missed unmissed held right carried placed unlost free is did room gone =
      let with_placed = placed-with given (members_without missed former) slot sb is.made placed unlost free is.few is.there is.long is.untaken in
      added-safe sound scope given told former missed new slot sb before after did held unmissed placed with_placed is.made (let few = is.few in let lt = is.there in omega (arith, few, lt)) is.long is.small is.untaken
      (slot-unknown scope given told.carried former missed slot sb (disk given.start before) held unmissed placed free is.few is.there is.long is.small is.untaken is.unspare is.made is.of_scope carried is.unknown is.second)
      (left_set 32 (live_set (members_without missed former) (adding (members_without missed former) slot sb)) (with_spare slot sb (members_without missed former)).lost)
      (adding-starts scope given told.carried former missed slot sb (disk given.start before) held unmissed placed free is.few is.there is.long is.small is.untaken is.unspare is.made is.of_scope carried is.unknown is.second)
      room gone right is.of_scope.seen
      (live-known scope given told.carried former missed slot sb (disk given.start before) held unmissed placed free is.few is.there is.long is.small is.untaken is.unspare is.made is.of_scope carried is.unknown is.second)
      carried

  -- what the members miss now is told
  gone-now : (old : Members) → IsPlaced given old → AreUnlost old → AreSparesFree given old → IsAddableTo scope given told old slot sb (disk given.start before) → IsAddedBy ⊤ given slot sb old new before after → AreGoneTold told new
      → AreGoneTold told old
  gone-now old placed unlost free is did gone =
      let with_placed = placed-with given old slot sb is.made placed unlost free is.few is.there is.long is.untaken in
      gone-before given (with_spare slot sb old) new with_placed (added-moved did placed with_placed did.held) told gone

  -- where it is lost, what is missing is named; else it isn't among those that are to be named yet
  pub adding-safe : (old : Members) → (has_slot old.lost slot ≡ true → AreUnnamed old) → IsSteady sound scope given told old (disk given.start before) → AddsSafely old
  adding-safe old fresh steady placed unlost free is did room gone = of (has_slot old.lost slot) refl
    where
      same : old ≡ members_without steady.since.gone steady.former
      same = steady.since.since

      numbers : AreCarried scope told.carried old.own (disk given.start before)
      numbers = subst (λ (own : List (Option Sb)). AreCarried scope told.carried own (disk given.start before)) (ap (λ (v : Members). v.own) (sym same)) steady.numbers

      of : (b : Bool) → has_slot old.lost slot ≡ b → IsSafeStretch sound scope given (with_number slot sb.dev_number told) new before after
      of true lost = subst AddsSafely (without-none old)
          (adding-from old 0 (none_there slot) (named-held sound scope given told old (disk given.start before) placed unlost free (fresh lost) steady)
          (steady-right sound scope given told old (disk given.start before) steady (gone-now old placed unlost free is did gone)) numbers) placed unlost free is did room gone
      of false there = subst AddsSafely (sym same)
          (adding-from steady.former steady.since.gone (unmissed (has_slot steady.since.gone slot) refl) steady.since.held steady.right steady.numbers) placed unlost free is did room gone
        where
          or_true : (b : Bool) → (b || true) ≡ true
          or_true true = refl
          or_true false = refl

          unmissed : (b : Bool) → has_slot steady.since.gone slot ≡ b → b ≡ false
          unmissed false is = refl
          unmissed true is = absurd (
              let e = or_true (has_slot steady.former.lost slot) in
              let all = sym e ∙ ap (λ (b : Bool). has_slot steady.former.lost slot || b) (sym is) ∙ sym (in-both steady.former.lost steady.since.gone slot) ∙ ap (λ (v : Members). has_slot v.lost slot) (sym same) ∙ there in
              cc)
