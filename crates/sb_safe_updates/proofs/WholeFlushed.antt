-- The slot that recovers a role is flushed, before the role is recorded whole: it has every row then, or it failed and is lost.
use Rattle.std.proofs.Common.{◌≡◌, ◌≢◌, inl, inr, ⊎_elim, ℕ, zero, suc, ◌+◌, ◌<◌, ◌≤◌, ◌==◌, ◌++◌, ◌&&◌, nat_lt, Bool, true, false, not, cond, take, take_all, le_refl, List, [], ◌∷◌, length, Some, None, Result, Ok, Err, refl, sym, ◌∙◌, ap, subst, arith}
use Rattle.std.specs.Prelude.{IsOk, is_err}
use Rattle.std.proofs.lemmas.Bool.{cases_eq}
use Rattle.std.proofs.lemmas.Bool.Decides.{nat_tests}
use Rattle.raid_layout.specs.raid_types_Sectors.{Sector}
use Rattle.raid_layout.specs.raid_types_Shapes.{has_slot}
use Rattle.raid_layout.specs.raid_types_the_Role.{Role}
use Rattle.raid_layout.specs.raid_types_the_Role_TheVariants.{Recovering, Missing}
use Rattle.sb_update.specs.bank_the_Operation.{Operation}
use Rattle.sb_update.specs.bank_the_Operation_TheVariants.{Flush}
use Rattle.sb_update.specs.bank_Given.{Given, IsFaulted, NeverFalls}
use Rattle.sb_update.specs.bank_Tape.{Did, AreFlushes, disk, value_after}
use Rattle.sb_update.proofs.bank_Causes.{faulted_longer}
use Rattle.sb_update.proofs.bank_Laws.{disk-flushed}
use Rattle.sb_update.specs.sb_specs_the_Members.{Members}
use Rattle.sb_update.specs.sb_specs_Reading.{shape_of, role_state, holder, is_whole, data_offset_of}
use Rattle.sb_update.specs.sb_specs_Reads.{has_spare}
use Rattle.array_members.specs.stripe_row_Rows.{reading_of, present, role_without, members_without}
use Rattle.array_members.proofs.stripe_row_Losses.{state_after, state_kept}
use Rattle.array_members.specs.Placed.{IsPlaced}
use Rattle.array_members.specs.crash_safety_laws_Steady.{AreUnlost}
use Rattle.array_members.specs.Flushing.{OnlyFlushesAdded}
use Rattle.array_members.specs.Moving.{IsMoved}
use Rattle.array_members.specs.Lacking.{HaveFailedSince}
use Rattle.array_members.specs.Rebuilding.{AreSparesFree, AreRowsFull, IsFlushedFull}
use Rattle.array_members.proofs.HeldRows.{missing-moved}
use Rattle.array_members.proofs.LackingLaws.{holder-without}
use Rattle.array_members.proofs.MovedLaws.{moved-without, moved-then, moved-from}
use Rattle.sb_safe_updates.proofs.GivenAway.{moved-away}
use Rattle.array_members.proofs.GivenMembers.{IsReceiver, W, holder-then, spare-then, spare-before}
use Rattle.sb_safe_updates.proofs.MadeWhole.{holder-receives}

-- ---- it was flushed

pub flushed-full : (given : Given) (m : Members) (role slot : ℕ) (list : ℕ → Sector) (before after : List Operation) → after ≡ before ++ Flush slot ∷ [] → AreRowsFull m role slot list (present given before)
    → IsFlushedFull m role slot list (disk given.start after)
flushed-full given m role slot list before after is full row lt =
    let k = data_offset_of (reading_of m) slot + row in
    ap (λ (l : List Operation). disk given.start l slot k) is
    ∙ disk-flushed given.start before slot k
    ∙ ap (λ (l : List Operation). value_after slot k (given.start slot k) l ∷ []) (sym (take_all (length before) before (le_refl (length before))))
    ∙ ap (λ (v : Sector). v ∷ []) (full row lt)

-- what failed late has failed since
pub since-earlier : (old new : Members) (spares : ℕ) (f g h : ℕ → ℕ) → NeverFalls f g → NeverFalls g h → HaveFailedSince old new spares g h → HaveFailedSince old new spares f h
since-earlier old new spares f g h early late since = record {
  roles = λ r s held. ⊎_elim (λ still. inl still) (λ did. inr (longer s did)) (since.roles r s held);
  spares_are = λ s has. longer s (since.spares_are s has);
  were = since.were;
  fewer = since.fewer;
  told = since.told;
}
  where
    longer : (s : ℕ) → IsFaulted s g h → IsFaulted s f h
    longer s did = faulted_longer s f g h h (early s) (omega arith) (late s) did

-- ---- it failed

module _ (given given1 : Given) (m mid : Members) (lost role slot : ℕ) (placed : IsPlaced given m) (unlost : AreUnlost m) (free : AreSparesFree given m) (below : role < (shape_of m.newest).disks)
    (recovers : role_state (reading_of m) role ≡ Recovering slot) (same : given1 ≡ given) (is : mid ≡ members_without lost m) (alone : (s : ℕ) → has_slot lost s ≡ (slot == s)) where
  pub to : IsReceiver given m role slot
  to = holder-receives given m role slot placed unlost below recovers

  self : (a : ℕ) → (a == a) ≡ true
  self a = grind (arith, nat_tests)

  equal : (a b : ℕ) → (a == b) ≡ true → a ≡ b
  equal a b h = grind (arith, nat_tests)

  gone : has_slot lost slot ≡ true
  gone = alone slot ∙ self slot

  pub lost-moved : IsMoved given m mid
  lost-moved = subst (IsMoved given m) (sym is) (moved-without given m lost placed unlost (λ s has. (role, ap holder recovers ∙ ap (λ (n : ℕ). Some n) (equal slot s (sym (alone s) ∙ has)))))

  pub mid-placed : IsPlaced given1 mid
  mid-placed = subst (λ (b : Given). IsPlaced b mid) (sym same) lost-moved.placed

  pub mid-free : AreSparesFree given1 mid
  mid-free = subst (λ (b : Given). AreSparesFree b mid) (sym same) (lost-moved.free free)

  state-mid : (r : ℕ) → role_state (reading_of mid) r ≡ role_without lost (role_state (reading_of m) r)
  state-mid r = ap (λ (x : Members). role_state (reading_of x) r) is ∙ state_after m lost r

  mid-missing : role_state (reading_of mid) role ≡ Missing
  mid-missing = state-mid role ∙ ap (role_without lost) recovers ∙ ap (λ (b : Bool). cond b Missing (Recovering slot)) gone

  module _ (n : Members) (moved : IsMoved given1 mid n) where
    later : IsMoved given mid n
    later = moved-from given given1 mid mid n same refl moved

    -- the slot holds no role any more
    pub out : (r s : ℕ) → holder (role_state (reading_of n) r) ≡ Some s → s ≢ slot
    out r s holds here = absurd (
        let kept = (state_kept lost s (role_state (reading_of m) r) (ap holder (sym (state-mid r)) ∙ moved.held r s holds)).here in
        let clash = sym gone ∙ ap (has_slot lost) (sym here) ∙ kept in cc
        )

    pub failed-moved : length m.spares ≤ 32 → IsMoved given (W given m placed None role slot to) n
    failed-moved few =
        let all = moved-then given m mid n lost-moved later in
        moved-away given m n placed None role slot to all (record {
          holders = out;
          spares = λ s has. let f = free s (all.fewer s has) in ((λ here. f.none role (ap holder recovers ∙ ap (λ (k : ℕ). Some k) (sym here))), f.room.small, (all.free free s has).unlost);
          few = all.spares few;
          missing = missing-moved later role (ap (λ (s : Role). not (is_whole s)) mid-missing);
        })

    pub failed-since : (told : ℕ) (f g h : ℕ → ℕ) → NeverFalls f g → NeverFalls g h → IsFaulted slot f g → HaveFailedSince mid n told g h → HaveFailedSince (W given m placed None role slot to) n told f h
    failed-since told f g h early late did since = record {
      roles = λ r s holds. elim (cases_eq s slot) [
        | inl here ↦ inr (subst (λ (t : ℕ). IsFaulted t f h) (sym here) (faulted_longer slot f f g h (omega arith) (late slot) (early slot) did))
        | inr apart ↦ ⊎_elim
            (λ given_here. absurd (apart given_here.1))
            (λ other. ⊎_elim (λ still. inl still) (λ fault. inr (longer s fault))
            (since.roles r s (ap holder (state-mid r) ∙ holder-without lost s (role_state (reading_of m) r) other.2 (alone s ∙ differ slot s (λ here. apart (sym here))))))
            (holder-then given m placed None role slot to r s holds)
      ];
      spares_are = λ s has. longer s (since.spares_are s has);
      were = λ s has. spare-mid s (since.were s has);
      fewer = λ s has. spare-mid s (since.fewer s has);
      told = λ s has. since.told s (ap (λ (x : Members). has_spare x.spares s) is ∙ (spare-before given m placed None role slot to s has).0);
    }
      where
        differ : (a b : ℕ) → a ≢ b → (a == b) ≡ false
        differ a b apart = grind (arith, nat_tests, apart)

        is-below : (a b : ℕ) → a < b → nat_lt a b ≡ true
        is-below a b lt = grind (arith, nat_tests, lt)

        -- the slot was no spare, since it held the role
        spare-mid : (s : ℕ) → has_spare mid.spares s ≡ true → has_spare (W given m placed None role slot to).spares s ≡ true
        spare-mid s has =
            let was : has_spare m.spares s ≡ true = ap (λ (x : Members). has_spare x.spares s) (sym is) ∙ has in
            let room = free s was in
            let apart : slot ≢ s = λ here. room.none role (ap holder recovers ∙ ap (λ (k : ℕ). Some k) here) in
            spare-then given m placed None role slot to s ∙ (λ i. is-below s 32 room.room.small i && (was i && not (differ slot s apart i)))

        longer : (s : ℕ) → IsFaulted s g h → IsFaulted s f h
        longer s fault = faulted_longer s f g h h (early s) (omega arith) (late s) fault

-- ---- the flush

flush-alone : (slot n : ℕ) → AreFlushes (take n (Flush slot ∷ []))
flush-alone slot zero = tt
flush-alone slot (suc zero) = tt
flush-alone slot (suc (suc n)) = tt

pub flush-added : {T E tells : Type 0} {result : Result T E} {before after : List Operation} (slot : ℕ) → Did tells result before after (Flush slot ∷ []) → tells → OnlyFlushesAdded before after
flush-added slot did told = let some = did.some told in (take some.0 (Flush slot ∷ []), flush-alone slot some.0, some.1)

pub ok-of : {T E : Type 0} (result : Result T E) → is_err result ≡ false → IsOk result
ok-of (Ok x) none = refl
ok-of (Err e) none = absurd (cc)
