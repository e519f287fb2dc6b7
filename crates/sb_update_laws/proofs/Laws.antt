-- The laws of a whole update, whichever slots are lost in it.
use Rattle.std.proofs.Common.{inl, inr, sym, ◌∙◌}
use Rattle.sb_read_laws.specs.raid_types_Shapes.{has_slot}
use Rattle.sb_read_laws.proofs.Following.{next-held}
use Rattle.sb_read_laws.proofs.RoundReads.{fit-of, kept-of, named_left, and_first, and_second, wider, left_set, left-are}
use Rattle.sb_read_laws.proofs.RoundsRead.{before-reads}
use Rattle.sb_read_laws.proofs.StageReads.{held-reads}
use Rattle.sb_read_laws.proofs.UpTo.{turns-parts, turned-room, rounds-parts, end-room}
use Rattle.sb_update_laws.specs.Turning.{UpdateTurningReads, UpdateTurningEnds, UpdateTurningMayFollow}
use Rattle.sb_update_laws.specs.MakingWhole.{UpdateMakingWholeReads, UpdateMakingWholeEnds, UpdateMakingWholeMayFollow}
use Rattle.sb_update_laws.proofs.Joined.{turn-reads, turns-read, turns-end}
use Rattle.sb_update_laws.proofs.MakingReads.{more-lost, catching, in-first, in-naming}
use Rattle.sb_update_laws.proofs.MakingEnds.{follows, ends}

-- ---- in turns

pub turning-reads : UpdateTurningReads
turning-reads scope known left members change before live last events d e ready first_lost room at image drawn = elim (turns-parts members change before live last events d e room at) [
  | inl catching ↦ before-reads scope members change before live known left d ready last e image catching.stage drawn
  | inr (inl (mid, caught, taken)) ↦ turn-reads scope members change before live known left d ready first_lost mid caught last e image taken drawn
  | inr (inr (mid, caught, first, past, naming)) ↦ wider scope known members change before live naming.0.start.lost last image naming.1
      (turns-read scope members change before live known left d ready first_lost mid caught first past e image naming.0 naming.2 drawn)
]

pub turning-ends : UpdateTurningEnds
turning-ends scope known left members change before live d last ready first_lost past room some =
    let at = turns-end scope members change before live known left d ready first_lost past.mid past.caught past.first past.past last past.named.0 past.named.1 (λ s is none. past.again some s (past.past.more s is) none) (turned-room members change before live d last past room) some in
    record {
      known = at.known;
      named = at.named;
      own = at.own;
      held = at.held;
      exact = λ left are s sb found is own_is m. at.exact s sb found (and_first (has_slot live s) (has_slot last.lost s) (sym (are s) ∙ is)) (and_second (has_slot live s) (has_slot last.lost s) (sym (are s) ∙ is)) own_is m;
      are = named_left live at.gone at.named at.known at.are at.named_gone at.unnamed;
      more = at.more;
      grown = λ s is. at.grown s (at.named_gone s is);
      later = at.later;
      plan = at.plan;
      kept = kept-of last.newest change.gives members.own at.own at.known at.own_is;
      reads = λ image drawn. held-reads scope at.known last.lost last.newest at.own last.disk at.held at.known (λ s is. is) image drawn;
    }

pub turning-follows : UpdateTurningMayFollow
turning-follows scope known left members change before live d last ready first_lost past room some named own stored rest are =
    let at = turns-end scope members change before live known left d ready first_lost past.mid past.caught past.first past.past last past.named.0 past.named.1 (λ s is none. past.again some s (past.past.more s is) none) (turned-room members change before live d last past room) some in
    next-held scope members change before live known left (λ s. ⊥) (fit-of scope known left members change live d ready) past.named.0 last at named own stored rest are

-- ---- where a slot is made whole

pub making-reads : UpdateMakingWholeReads
making-reads scope known left members change before live slot role last events d e making ready room at image drawn = elim (rounds-parts members change before live last events d e room at) [
  | inl caught ↦ catching scope known left members change before live slot role d making ready last e caught.stage image drawn
  | inr (inl first) ↦ more-lost scope known left members change before live slot role d making ready first.0.mid.lost last image first.1
      (in-first scope known left members change before live slot role d making ready e first.0 image drawn)
  | inr (inr (first, past, naming)) ↦ more-lost scope known left members change before live slot role d making ready naming.0.start.lost last image naming.1
      (in-naming scope known left members change before live slot role d making ready first past e naming.0 naming.2 image drawn)
]

pub making-ends : UpdateMakingWholeEnds
making-ends scope known left members change before live slot role d last making ready past room some named own stored =
    ends scope known left members change before live slot role d making ready past.first last past.named.0 past.past past.named.1 (end-room members change before live d last past room) some named own stored (left_set scope.sizes.slots live last.lost)
    (left-are scope.sizes.slots live last.lost (λ s is. (ready.held.each s (ready.within s is)).there))

pub making-follows : UpdateMakingWholeMayFollow
making-follows scope known left members change before live slot role d last making ready past room some named own stored rest are =
    (follows scope known left members change before live slot role d making ready past.first last past.named.0 past.past past.named.1 (end-room members change before live d last past room) some named own stored rest are).0
