-- A frame is nothing done, or one thing done after another.
use Rattle.std.proofs.Common.{◌≡◌, ℕ, List, refl, sym, ◌∙◌, subst, le_trans, arith}
use Rattle.sb_update.specs.bank_the_Operation.{Operation}
use Rattle.sb_update.specs.bank_Given.{Given, NeverFalls}
use Rattle.sb_update.specs.bank_Tape.{disk}
use Rattle.raid_layout.specs.raid_types_the_Shape.{Shape}
use Rattle.sb_update.specs.sb_specs_the_Members.{Members}
use Rattle.array_members.specs.history_World.{World}
use Rattle.array_members.specs.history_Sound.{OpensFit}
use Rattle.array_members.specs.crash_views_Views.{Ledger}
use Rattle.array_members.specs.crash_safety_laws_Safety.{HasRoomLeft, IsRisen}
use Rattle.array_members.specs.crash_safety_laws_Steady.{AreUnlost, IsSafeOver, KeepsSafe, AreGoneTold}
use Rattle.array_members.specs.stripe_row_Rows.{members_without}
use Rattle.array_members.specs.Under.{IsRestKept}
use Rattle.array_members.specs.Lacking.{HaveFailedSince}
use Rattle.array_members.specs.Moving.{Grows, IsMoved}
use Rattle.array_members.specs.Placed.{AreLost, IsPlaced}
use Rattle.sb_safe_updates.specs.Unused.{IsUnusedKept}
use Rattle.array_members.proofs.MovedLaws.{moved-then, moved-same, moved-from, moved-lost, grows-none, grows-then}
use Rattle.array_members.proofs.LackingLaws.{since-same, since-then, since-lost, IsUnion}
use Rattle.array_members.proofs.crash_safety_laws_Risen.{risen-none, risen-then, risen-lost, room-first, room-then}
use Rattle.sb_safe_updates.proofs.Unused.{unused-then, rest-unused}
use Rattle.array_members.proofs.SafeStretch.{gone-before, safe-then, over-at, keeps-from, grows-longer}
use Rattle.sb_safe_updates.specs.Frame.{Stands, GoesOn, KeepsMembers, Keeps}

module _ {B : Type 0} {tells : Type 0} {given : B → Given} {tape : B → List Operation} {faults : B → ℕ → ℕ} where
  pub goes-none : (bank : B) → GoesOn tells given tape faults bank bank
  goes-none bank = record { same = refl; grows = grows-none (λ told. refl); counts = λ s. omega arith }

  pub goes-then : {a b c : B} → GoesOn tells given tape faults a b → GoesOn tells given tape faults b c → GoesOn tells given tape faults a c
  goes-then one two = record { same = two.same ∙ one.same; grows = grows-then one.grows two.grows; counts = λ s. le_trans (one.counts s) (two.counts s) }

  -- ---- members alone

  pub members-of : {a b : B} {m n : Members} {s : ℕ} → Keeps tells given tape faults a b m n s → KeepsMembers tells given tape faults a b m n s
  members-of did = record { bank = did.bank; moved = did.moved; failed = did.failed; rise = did.rise }

  pub members-none : (bank : B) (m : Members) → Stands (given bank) m → KeepsMembers tells given tape faults bank bank m m 0
  members-none bank m stands = record {
    bank = goes-none bank;
    moved = moved-same (given bank) (given bank) m m refl refl stands.placed stands.unlost;
    failed = since-same m (faults bank) (faults bank);
    rise = risen-none m (tape bank) (tape bank) (λ told. omega arith);
  }

  -- the later one moved on members at the bank that was at first
  pub members-moved-on : {a b c : B} {m n k : Members} {s t : ℕ} → KeepsMembers tells given tape faults a b m n s → KeepsMembers tells given tape faults b c n k t → IsMoved (given a) n k
  members-moved-on {a = a} {b = b} {n = n} {k = k} one two = moved-from (given a) (given b) n n k one.bank.same refl two.moved

  pub members-then : {a b c : B} {m n k : Members} {s t u : ℕ} → KeepsMembers tells given tape faults a b m n s → KeepsMembers tells given tape faults b c n k t → IsUnion u s t
      → KeepsMembers tells given tape faults a c m k u
  members-then {a = a} {b = b} {c = c} {m = m} {n = n} {k = k} {s = s} {t = t} {u = u} one two either = record {
    bank = goes-then one.bank two.bank;
    moved = moved-then (given a) m n k one.moved (members-moved-on one two);
    failed = since-then m n k s t u (faults a) (faults b) (faults c) one.bank.counts two.bank.counts one.failed two.failed either;
    rise = risen-then one.rise two.rise;
  }

  pub members-stand-on : {a b : B} {m n : Members} {s : ℕ} → KeepsMembers tells given tape faults a b m n s → Stands (given a) m → Stands (given b) n
  members-stand-on {a = a} {b = b} {n = n} did stands = subst (λ (g : Given). Stands g n) (sym did.bank.same)
      (record { slots = stands.slots; placed = did.moved.placed; unlost = did.moved.unlost; free = did.moved.free stands.free })

  -- slots were lost in a call on the rows
  pub members-lost : (a b : B) (shape : Shape) (m n : Members) (lost : ℕ) → IsPlaced (given a) m → AreUnlost m → AreLost (given a) shape m n lost (faults a) (faults b) → given b ≡ given a
      → Grows tells (tape a) (tape b) → KeepsMembers tells given tape faults a b m n 0
  members-lost a b shape m n lost placed unlost did same grows = record {
    bank = record { same = same; grows = grows; counts = did.never_falls };
    moved = moved-lost (given a) shape m n lost (faults a) (faults b) placed did unlost;
    failed = since-lost (given a) shape m n lost (faults a) (faults b) did;
    rise = risen-lost m n lost (tape a) (tape b) did.members (λ told. grows-longer grows told);
  }

  -- ---- and the slots that have no part in the array

  pub keeps-none : (bank : B) (m : Members) → Stands (given bank) m → Keeps tells given tape faults bank bank m m 0
  keeps-none bank m stands = record {
    bank = goes-none bank;
    moved = moved-same (given bank) (given bank) m m refl refl stands.placed stands.unlost;
    failed = since-same m (faults bank) (faults bank);
    rise = risen-none m (tape bank) (tape bank) (λ told. omega arith);
    unused = λ told s k v idle may. may;
  }

  -- the later one moved on members at the bank that was at first
  pub moved-on : {a b c : B} {m n k : Members} {s t : ℕ} → Keeps tells given tape faults a b m n s → Keeps tells given tape faults b c n k t → IsMoved (given a) n k
  moved-on {a = a} {b = b} {n = n} {k = k} one two = moved-from (given a) (given b) n n k one.bank.same refl two.moved

  pub keeps-then : {a b c : B} {m n k : Members} {s t u : ℕ} → Keeps tells given tape faults a b m n s → Keeps tells given tape faults b c n k t → IsUnion u s t
      → Keeps tells given tape faults a c m k u
  keeps-then {a = a} {b = b} {c = c} {m = m} {n = n} {k = k} {s = s} {t = t} {u = u} one two either = record {
    bank = goes-then one.bank two.bank;
    moved = moved-then (given a) m n k one.moved (moved-on one two);
    failed = since-then m n k s t u (faults a) (faults b) (faults c) one.bank.counts two.bank.counts one.failed two.failed either;
    rise = risen-then one.rise two.rise;
    unused = λ told. unused-then (given a) m n (disk (given a).start (tape a)) (disk (given a).start (tape b)) (disk (given a).start (tape c)) one.moved (one.unused told)
        (subst (λ (g : Given). IsUnusedKept n (disk g.start (tape b)) (disk g.start (tape c))) one.bank.same (two.unused told));
  }

  pub stands-on : {a b : B} {m n : Members} {s : ℕ} → Keeps tells given tape faults a b m n s → Stands (given a) m → Stands (given b) n
  stands-on {a = a} {b = b} {n = n} did stands = subst (λ (g : Given). Stands g n) (sym did.bank.same)
      (record { slots = stands.slots; placed = did.moved.placed; unlost = did.moved.unlost; free = did.moved.free stands.free })

  -- slots were lost in a call on the rows
  pub keeps-lost : (a b : B) (shape : Shape) (m n : Members) (lost : ℕ) → IsPlaced (given a) m → AreUnlost m → AreLost (given a) shape m n lost (faults a) (faults b) → given b ≡ given a
      → Grows tells (tape a) (tape b) → (tells → IsUnusedKept m (disk (given a).start (tape a)) (disk (given a).start (tape b))) → Keeps tells given tape faults a b m n 0
  keeps-lost a b shape m n lost placed unlost did same grows unused = record {
    bank = record { same = same; grows = grows; counts = did.never_falls };
    moved = moved-lost (given a) shape m n lost (faults a) (faults b) placed did unlost;
    failed = since-lost (given a) shape m n lost (faults a) (faults b) did;
    rise = risen-lost m n lost (tape a) (tape b) did.members (λ told. grows-longer grows told);
    unused = unused;
  }

  -- slots were lost in reads, and nothing was written
  pub keeps-read : {a b : B} {m n : Members} {s : ℕ} (lost : ℕ) → n ≡ members_without lost m → (tells → tape b ≡ tape a) → given b ≡ given a → NeverFalls (faults a) (faults b)
      → IsMoved (given a) m n → HaveFailedSince m n s (faults a) (faults b) → Keeps tells given tape faults a b m n s
  keeps-read {a = a} {b = b} {m = m} {n = n} lost is still same counts moved failed =
      let grows : Grows tells (tape a) (tape b) = grows-none still in record {
        bank = record { same = same; grows = grows; counts = counts };
        moved = moved;
        failed = failed;
        rise = risen-lost m n lost (tape a) (tape b) is (λ told. grows-longer grows told);
        unused = λ told. subst (λ (l : List Operation). IsUnusedKept m (disk (given a).start (tape a)) (disk (given a).start l)) (sym (still told)) (λ s k v idle may. may);
      }

  -- an update of the superblocks alone
  pub keeps-rest : {a b : B} {m n : Members} {s : ℕ} → GoesOn tells given tape faults a b → IsMoved (given a) m n → HaveFailedSince m n s (faults a) (faults b)
      → IsRisen tells m n (tape a) (tape b) → (tells → IsRestKept m (disk (given a).start (tape a)) (disk (given a).start (tape b))) → Keeps tells given tape faults a b m n s
  keeps-rest {a = a} {b = b} {m = m} bank moved failed rise rest = record {
    bank = bank;
    moved = moved;
    failed = failed;
    rise = rise;
    unused = λ told. rest-unused m (disk (given a).start (tape a)) (disk (given a).start (tape b)) (rest told);
  }

  -- what is told gone at the end was so in between
  pub gone-between : {a b c : B} {m n k : Members} {s t : ℕ} (told : Ledger) → Keeps tells given tape faults a b m n s → Keeps tells given tape faults b c n k t
      → AreGoneTold told k → AreGoneTold told n
  gone-between {a = a} {n = n} {k = k} told one two gone = gone-before (given a) n k one.moved.placed (moved-on one two) told gone

  -- one safe stretch after another, with room for the events of both
  pub safe-on : {a b c : B} {m n k : Members} {s t : ℕ} (told : tells) (world : World) (ledger : Ledger) → Keeps tells given tape faults a b m n s → Keeps tells given tape faults b c n k t
      → HasRoomLeft m (tape a) (tape c)
      → (HasRoomLeft m (tape a) (tape b) → KeepsSafe world (given a) ledger n (tape a) (tape b))
      → (HasRoomLeft n (tape b) (tape c) → IsSafeOver world (given b) ledger n (tape b) → KeepsSafe world (given b) ledger k (tape b) (tape c))
      → KeepsSafe world (given a) ledger k (tape a) (tape c)
  safe-on {a = a} {b = b} {c = c} {m = m} {n = n} {k = k} told world ledger one two room first second =
      let early = first (room-first m (tape a) (tape b) (tape c) room (grows-longer two.bank.grows told)) in
      safe-then (OpensFit world) world.scope (given a) ledger n k (tape a) (tape b) (tape c) early
      (keeps-from world (given a) (given b) ledger k (tape b) (tape c) one.bank.same
      (second (room-then (tape c) told room one.rise) (over-at world (given a) (given b) ledger n (tape b) one.bank.same early.next)))
