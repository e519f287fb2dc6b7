-- A mark of an update that ends with these slots lost and this event count: it is one of those whose images the laws read, with room in the
-- event count.
use Rattle.std.proofs.Common.{◌≡◌, ◌⊎◌, inl, inr, ⊎_elim, ℕ, zero, suc, ◌+◌, ◌-◌, ◌^◌, ◌<◌, ◌≤◌, min, true, List, sym, ◌∙◌, ap, subst, arith}
use Rattle.sb_specs.specs.raid_types_Sectors.{Sector}
use Rattle.sb_specs.specs.raid_types_Shapes.{has_slot}
use Rattle.sb_specs.specs.sb_codec_the_Sb.{Sb}
use Rattle.sb_specs.specs.bank_Tape.{IsIn}
use Rattle.sb_specs.specs.declared.change.Change.{Change}
use Rattle.sb_specs.specs.declared.members.Members.{Members}
use Rattle.sb_specs.specs.Update.{give_of, own_in, is_recovery}
use Rattle.sb_specs.specs.Rounds.{Round, naming, first_newest, IsRewriting, IsNaming, AreNamings, IsInNaming, IsInNamingUpTo, IsCatchingUpTo, IsCaughtUpTo, IsFirstRewriting, IsInFirst, IsPastFirst, members_at, IsInRounds, ArePast}
use Rattle.sb_specs.specs.Crash.{IsWithin}
use Rattle.sb_specs.specs.Losing.{AreTakenInTurn, IsPastTurns, planned_at, IsInTurns, ArePastTurns}

abbrev Disk : Type 0
Disk = ℕ → ℕ → List Sector

module _ (members : Members) (change : Change) (before live : ℕ) where
  -- ---- the event counts

  counted : (n m : ℕ) → n ≡ min (m + 1) (2 ^ 64 - 1) → n < 2 ^ 62 → n ≡ m + 1
  counted n m is room = omega (arith, is, room)

  -- each round that names lost slots raises it by one
  namings-count : (n : ℕ) (first a b : Round) → AreNamings (members_at members first) change before live n a b → b.newest.events < 2 ^ 62 → b.newest.events ≡ a.newest.events + n
  unfolding AreNamings
  namings-count zero first a b same room = let here = ap (λ (r : Round). r.newest.events) same in omega (arith, here)
  namings-count (suc n) first a b (mid, over, next) room =
      let one = counted b.newest.events mid.newest.events (ap (λ (z : Sb). z.events) next.newest) room in
      let earlier = namings-count n first a mid over (omega (arith, one, room)) in
      omega (arith, one, earlier)

  count-from : (n : ℕ) (first b : Round) → first.newest.events ≡ min (members.newest.events + 1) (2 ^ 64 - 1) → AreNamings (members_at members first) change before live n first b → b.newest.events < 2 ^ 62
      → b.newest.events ≡ members.newest.events + 1 + n
  count-from n first b is over room =
      let rest = namings-count n first first b over room in
      let one = counted first.newest.events members.newest.events is (omega (arith, rest, room)) in
      omega (arith, rest, one)

  first-count : (d : Disk) (first : Round) → IsPastFirst members change before live d first → first.newest.events ≡ min (members.newest.events + 1) (2 ^ 64 - 1)
  first-count d first past = ap (λ (z : Sb). z.events) past.written.newest ∙ ap (λ (z : Sb). min (z.events + 1) (2 ^ 64 - 1)) past.caught.newest

  turns-count : (mid first : Round) → IsPastTurns (planned_at members change before mid) change before live mid.disk first → first.newest.events ≡ min (members.newest.events + 1) (2 ^ 64 - 1)
  turns-count mid first past = ap (λ (z : Sb). z.events) past.newest ∙ ⊎_elim (λ kept. ap (λ (z : Sb). z.events) kept.1) (λ named. ap (λ (z : Sb). z.events) named) past.recoveries.newest

  -- ---- at its end

  pub end-room : (d : Disk) (last : Round) (past : ArePast members change before live d last) → last.newest.events < 2 ^ 62 → members.newest.events + 1 + past.named.0 < 2 ^ 62
  end-room d last past room = let count = count-from past.named.0 past.first last (first-count d past.first past.past) past.named.1 room in omega (arith, count, room)

  pub turned-room : (d : Disk) (last : Round) (past : ArePastTurns members change before live d last) → last.newest.events < 2 ^ 62 → members.newest.events + 1 + past.named.0 < 2 ^ 62
  turned-room d last past room = let count = count-from past.named.0 past.first last (turns-count past.mid past.first past.past) past.named.1 room in omega (arith, count, room)

  -- ---- in a round that names lost slots

  -- one goes on, and its event count has room
  abbrev pub IsInNamingOf : ℕ → Round → Disk → Type 0
  IsInNamingOf last first e = (at : IsInNaming (members_at members first) change before live first e) × IsWithin at.start.lost last × (members.newest.events + 2 + at.rounds < 2 ^ 62)

  -- or the first round is just over
  naming-parts : (last events : ℕ) (first : Round) (e : Disk) → events < 2 ^ 62 → first.newest.events ≡ min (members.newest.events + 1) (2 ^ 64 - 1)
      → IsInNamingUpTo (members_at members first) change before live last events first e
      → IsInNamingOf last first e ⊎ (((s : ℕ) → e s 8 ≡ first.disk s 8) × ((s : ℕ) (v : Sector) → IsIn (e s 9) v → IsIn (first.disk s 9) v) × IsWithin first.lost last)
  unfolding AreNamings
  naming-parts last events first e room is up =
      let at = up.at in
      let earlier = up.earlier in
      let count = count-from at.rounds first at.start is at.over (omega (arith, earlier, room)) in
      ⊎_elim
      (λ this_one.
      let small : min (at.start.newest.events + 1) (2 ^ 64 - 1) ≤ events = this_one in
      inl (at, up.within, omega (arith, count, small, room)))
      (λ rest. at-rest at.rounds at.start at.over (omega (arith, count, earlier, room)) up.within rest at.stage.ninth)
      up.this
    where
      at-rest : (n : ℕ) (start : Round) → AreNamings (members_at members first) change before live n first start → members.newest.events + 1 + n < 2 ^ 62 → IsWithin start.lost last
          → ((s : ℕ) → e s 8 ≡ start.disk s 8) → ((s : ℕ) (v : Sector) → IsIn (e s 9) v → IsIn (start.disk s 9) v)
          → IsInNamingOf last first e ⊎ (((s : ℕ) → e s 8 ≡ first.disk s 8) × ((s : ℕ) (v : Sector) → IsIn (e s 9) v → IsIn (first.disk s 9) v) × IsWithin first.lost last)
      at-rest zero start same small within rest ninth = inr (subst (λ (r : Round). ((s : ℕ) → e s 8 ≡ r.disk s 8) × ((s : ℕ) (v : Sector) → IsIn (e s 9) v → IsIn (r.disk s 9) v) × IsWithin r.lost last) (sym same) (rest, ninth, within))
      at-rest (suc n) start (mid, over, next) small within rest ninth = inl (
        record {
          rounds = n;
          start = mid;
          over = over;
          stage = subst (λ (m : Sb). IsRewriting m change.gives members.own live mid.lost mid.disk e) next.newest (record {
            values = λ s v held. next.written.stage.values s v (subst (λ (l : List Sector). IsIn l v) (rest s) held);
            ninth = λ s v held. next.written.stage.ninth s v (ninth s v held);
          });
        },
        (λ s is. within s (next.written.more s is)),
        omega (arith, small),
      )

  -- ---- at each mark

  pub rounds-parts : (last events : ℕ) (d e : Disk) → events < 2 ^ 62 → IsInRounds members change before live last events d e
      → IsCatchingUpTo members.newest members.own live members.lost d e
      ⊎ (((at : IsInFirst members change before live d e) × IsWithin at.mid.lost last)
      ⊎ ((first : Round) × IsPastFirst members change before live d first × IsInNamingOf last first e))
  rounds-parts last events d e room (inl at) = inl at
  rounds-parts last events d e room (inr (inl at)) = inr (inl at)
  rounds-parts last events d e room (inr (inr (first, past, up))) = ⊎_elim
      (λ naming. inr (inr (first, past, naming)))
      (λ rest. inr (inl (
        record {
          mid = past.mid;
          caught = past.caught;
          stage = subst (λ (m : Sb). IsFirstRewriting m change.gives members.own live past.mid.lost past.mid.disk e) past.written.newest (record {
            stage = record {
              values = λ s v held. past.written.stage.stage.values s v (subst (λ (l : List Sector). IsIn l v) (rest.0 s) held);
              ninth = λ s v held. past.written.stage.stage.ninth s v (rest.1 s v held);
            };
            order = ⊎_elim
                (λ others. inl (λ s v none held. others s v none (subst (λ (l : List Sector). IsIn l v) (rest.0 s) held)))
                (λ all. inr (λ s v is none r held. all s v is none r (subst (λ (l : List Sector). IsIn l v) (rest.0 s) held)))
                past.written.stage.order;
          });
        },
        (λ s is. rest.2 s (past.written.written.more s is)),
      )))
      (naming-parts last events first e room (first-count d first past) up)

  pub turns-parts : (last events : ℕ) (d e : Disk) → events < 2 ^ 62 → IsInTurns members change before live last events d e
      → IsCatchingUpTo members.newest members.own live members.lost d e
      ⊎ (((mid : Round) × IsCaughtUpTo members.newest members.own live members.lost d mid × AreTakenInTurn (planned_at members change before mid) change before live last mid.disk e)
      ⊎ ((mid : Round) × IsCaughtUpTo members.newest members.own live members.lost d mid × (first : Round) × IsPastTurns (planned_at members change before mid) change before live mid.disk first
      × IsInNamingOf last first e))
  turns-parts last events d e room (inl at) = inl at
  turns-parts last events d e room (inr (inl at)) = inr (inl at)
  turns-parts last events d e room (inr (inr (mid, caught, first, past, up))) = ⊎_elim
      (λ naming. inr (inr (mid, caught, first, past, naming)))
      (λ rest. inr (inl (
        mid,
        caught,
        inr (
          past.over,
          (λ s is. rest.2 s (past.more s is)),
          past.recoveries,
          record {
            values = λ s v held. past.stage.values s v (subst (λ (l : List Sector). IsIn l v) (rest.0 s) held);
            ninth = λ s v held. past.stage.ninth s v (rest.1 s v held);
          },
          (λ s r. rest.0 s ∙ past.kept s r),
        ),
      )))
      (naming-parts last events first e room (turns-count mid first past) up)
