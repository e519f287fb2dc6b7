use Rattle.std.proofs.Common.{◌*◌, length, refl, sym, ◌∙◌, ap, subst, arith}
use Rattle.std.specs.Prelude.{Option, bit_or}
use Rattle.std.specs.Option.{option_map_or}
use Rattle.stripe_delayed_store.specs.raid_types_the_Shape.{Shape}
use Rattle.stripe_delayed_store.specs.stripe_row_Rows.{reading_of, present}
use Rattle.stripe_delayed_store.specs.stripe_row_Writes.{OthersStand}
use Rattle.stripe_delayed_store.specs.raid_parity_Rows.{sector_of}
use Rattle.stripe_delayed_store.specs.stripe_list_Writing.{AreDataOf}
use Rattle.stripe_delayed_store.specs.history_Sound.{OpensFit}
use Rattle.stripe_delayed_store.proofs.array_members_MovedLaws.{moved-same, grows-none}
use Rattle.stripe_delayed_store.proofs.array_members_LackingLaws.{since-same}
use Rattle.stripe_delayed_store.proofs.crash_safety_laws_Risen.{risen-none}
use Rattle.stripe_delayed_store.proofs.array_members_SafeStretch.{safe-none}
use Rattle.stripe_delayed_rows.specs.stripe_cache_the_Cached.{Cached}
use Rattle.stripe_delayed_rows.specs.stripe_cache_Rows.{Rows, kept}
use Rattle.stripe_delayed_rows.specs.stripe_cache_Apart.{IsCache}
use Rattle.stripe_delayed_rows.proofs.stripe_cache_Laws.{IsCache-kept}
use Rattle.stripe_delayed_rows.specs.Overlay.{AreRowsOfSides, IsHeld}
use Rattle.stripe_delayed_rows.proofs.RowLaws.{leaving-held, leaving-gone}
use Rattle.stripe_delayed_rows.proofs.OverlayLaws.{sides-stay}
use Rattle.stripe_write_back.specs.WrittenOut.{IsRowWrittenOut, AreRowsStanding, one_side}
use Rattle.stripe_write_back.specs.Keeping.{row_of, all_changed, IsRowKept}
use Rattle.stripe_write_back.proofs.WrittenOutLaws.{held-has, can-be}
use Rattle.stripe_write_back.proofs.KeepingLaws.{kept-stay, evicted-written, written-through, own-has, own-row, keep-fits, kept-standing, later-standing}
use Rattle.stripe_write_back.proofs.keeping.keep_row.Goals as goal

pub keep-requires-clause-length : goal.keep-requires-clause-length
keep-requires-clause-length g c =
    keep-fits (one_side c.args.side c.args.shape.now) c.args.members.now.newest.size c.args.cache.now c.args.side c.args.row (length c.args.bytes.now) c.args.shape.now.disks (λ s. refl) c.requires.rows c.requires.size

pub returns-in-Here-clause-moved : goal.returns-in-Here-clause-moved
returns-in-Here-clause-moved g c =
    moved-same (g.B.Bank.given c.args.bank.now) (g.B.Bank.given c.args.bank.now) c.args.members.now c.args.members.now refl refl c.requires.placed c.requires.unlost

pub returns-in-Here-clause-failed : goal.returns-in-Here-clause-failed
returns-in-Here-clause-failed g c =
    since-same c.args.members.now (g.B.Bank.faults_of c.args.bank.now) (g.B.Bank.faults_of c.args.bank.now)

pub returns-in-Here-clause-refused : goal.returns-in-Here-clause-refused
returns-in-Here-clause-refused g c =
    tt

pub returns-in-Here-clause-grows : goal.returns-in-Here-clause-grows
returns-in-Here-clause-grows g c =
    grows-none (λ told. refl)

pub returns-in-Here-clause-clean : goal.returns-in-Here-clause-clean
returns-in-Here-clause-clean g c =
    refl

pub returns-in-Here-clause-rise : goal.returns-in-Here-clause-rise
returns-in-Here-clause-rise g c =
    risen-none c.args.members.now (g.B.Bank.tape c.args.bank.now) (g.B.Bank.tape c.args.bank.now) (λ told. omega arith)

pub returns-in-Here-clause-given : goal.returns-in-Here-clause-given
returns-in-Here-clause-given g c =
    refl

pub returns-in-Here-clause-counts : goal.returns-in-Here-clause-counts
returns-in-Here-clause-counts g c =
    λ s. omega arith

pub returns-in-Here-clause-safe : goal.returns-in-Here-clause-safe
returns-in-Here-clause-safe g c =
    λ told world ledger room gone unclean dirty region stored list list' right stands written allowed allowed' zeros zeros' safe. safe-none (OpensFit world) world.scope (g.B.Bank.given c.args.bank.now) ledger c.args.members.now (g.B.Bank.tape c.args.bank.now) safe

pub returns-in-Here-clause-cache : goal.returns-in-Here-clause-cache
returns-in-Here-clause-cache g c =
    subst (λ (r : Rows). IsCache r) (sym c.in-Here.ensures.kept.0) (IsCache-kept (row_of c.args.side c.args.row c.args.bytes.now c.args.changed) c.args.cache.now c.requires.cache)

pub returns-in-Here-clause-rows : goal.returns-in-Here-clause-rows
returns-in-Here-clause-rows g c =
    subst (λ (r : Rows). AreRowsOfSides (one_side c.args.side c.args.shape.now) c.args.members.now.newest.size r) (sym c.in-Here.ensures.kept.0) ((sides-stay (one_side c.args.side c.args.shape.now) c.args.members.now.newest.size c.args.cache.now c.requires.cache c.requires.rows).1 (row_of c.args.side c.args.row c.args.bytes.now c.args.changed) (own-row c.args.side c.args.shape.now c.args.members.now.newest.size c.args.row c.args.bytes.now c.args.changed c.requires.row c.requires.size))

pub returns-in-Here-clause-kept : goal.returns-in-Here-clause-kept
returns-in-Here-clause-kept g c =
    λ none told. subst (λ (r : Rows). IsRowKept (one_side c.args.side c.args.shape.now) (row_of c.args.side c.args.row c.args.bytes.now c.args.changed) c.args.members.now c.args.members.now (present (g.B.Bank.given c.args.bank.now) (g.B.Bank.tape c.args.bank.now)) (present (g.B.Bank.given c.args.bank.now) (g.B.Bank.tape c.args.bank.now)) c.args.cache.now r) (sym c.in-Here.ensures.kept.0)
    (kept-stay (one_side c.args.side c.args.shape.now) c.args.members.now (present (g.B.Bank.given c.args.bank.now) (g.B.Bank.tape c.args.bank.now)) c.args.cache.now (row_of c.args.side c.args.row c.args.bytes.now c.args.changed) c.requires.cache c.in-Here.ensures.kept.1)

pub write_out_row-requires-clause-row : goal.write_out_row-requires-clause-row
write_out_row-requires-clause-row g c =
    let held : IsHeld c.args.cache.now c.in-Evicted.gone = (leaving-held c.args.cache.now (row_of c.args.side c.args.row c.args.bytes.now c.args.changed) c.in-Evicted.gone c.requires.cache c.in-Evicted.ensures.kept.1).0 in
    (c.requires.rows c.in-Evicted.gone held).below

pub write_out_row-requires-clause-size : goal.write_out_row-requires-clause-size
write_out_row-requires-clause-size g c =
    let held : IsHeld c.args.cache.now c.in-Evicted.gone = (leaving-held c.args.cache.now (row_of c.args.side c.args.row c.args.bytes.now c.args.changed) c.in-Evicted.gone c.requires.cache c.in-Evicted.ensures.kept.1).0 in
    (c.requires.rows c.in-Evicted.gone held).whole

pub write_out_row-requires-clause-others : goal.write_out_row-requires-clause-others
write_out_row-requires-clause-others g c =
    let held : IsHeld c.args.cache.now c.in-Evicted.gone = (leaving-held c.args.cache.now (row_of c.args.side c.args.row c.args.bytes.now c.args.changed) c.in-Evicted.gone c.requires.cache c.in-Evicted.ensures.kept.1).0 in
    λ told bytes are.
    subst (λ (t : Shape). OthersStand (present (g.B.Bank.given c.args.bank.now) (g.B.Bank.tape c.args.bank.now)) (reading_of c.args.members.now) t c.in-Evicted.gone.row bytes c.in-Evicted.gone.changed) (sym c.requires.shape)
    ((c.requires.standing told c.in-Evicted.gone held).1 bytes are)

pub returns-in-Here-clause-standing : goal.returns-in-Here-clause-standing
returns-in-Here-clause-standing g c =
    λ none told. subst (λ (r : Rows). AreRowsStanding c.args.members.now (present (g.B.Bank.given c.args.bank.now) (g.B.Bank.tape c.args.bank.now)) c.args.side r) (sym c.in-Here.ensures.kept.0) (kept-standing c.args.members.now (present (g.B.Bank.given c.args.bank.now) (g.B.Bank.tape c.args.bank.now)) c.args.side c.args.row c.args.bytes.now c.args.changed c.args.cache.now c.requires.cache (c.requires.size ∙ ap (λ (t : Shape). 512 * t.disks) c.requires.shape) (subst (λ (t : Shape). OthersStand (present (g.B.Bank.given c.args.bank.now) (g.B.Bank.tape c.args.bank.now)) (reading_of c.args.members.now) t c.args.row c.args.bytes.now (all_changed c.args.side c.args.row c.args.changed c.args.cache.now)) c.requires.shape (c.requires.own told)) (c.requires.standing told))

pub returns-in-Evicted-clause-standing : goal.returns-in-Evicted-clause-standing
returns-in-Evicted-clause-standing g c =
    let held : IsHeld c.args.cache.now c.in-Evicted.gone = (leaving-held c.args.cache.now (row_of c.args.side c.args.row c.args.bytes.now c.args.changed) c.in-Evicted.gone c.requires.cache c.in-Evicted.ensures.kept.1).0 in
    λ none told. subst (λ (r : Rows). AreRowsStanding c.write_out_row.new.members (present (g.B.Bank.given c.args.bank.now) (g.B.Bank.tape c.write_out_row.new.bank)) c.args.side r) (sym c.in-Evicted.ensures.kept.0)
    (later-standing (g.B.Bank.given c.args.bank.now) c.args.members.now c.write_out_row.new.members (present (g.B.Bank.given c.args.bank.now) (g.B.Bank.tape c.args.bank.now)) (present (g.B.Bank.given c.args.bank.now) (g.B.Bank.tape c.write_out_row.new.bank)) c.args.side (kept (row_of c.args.side c.args.row c.args.bytes.now c.args.changed) c.args.cache.now) c.in-Evicted.gone c.write_out_row.ensures.moved (c.requires.standing told c.in-Evicted.gone held).0
    (leaving-gone c.args.cache.now (row_of c.args.side c.args.row c.args.bytes.now c.args.changed) c.in-Evicted.gone c.requires.cache c.in-Evicted.ensures.kept.1) (c.write_out_row.ensures.out none told).others (kept-standing c.args.members.now (present (g.B.Bank.given c.args.bank.now) (g.B.Bank.tape c.args.bank.now)) c.args.side c.args.row c.args.bytes.now c.args.changed c.args.cache.now c.requires.cache (c.requires.size ∙ ap (λ (t : Shape). 512 * t.disks) c.requires.shape) (subst (λ (t : Shape). OthersStand (present (g.B.Bank.given c.args.bank.now) (g.B.Bank.tape c.args.bank.now)) (reading_of c.args.members.now) t c.args.row c.args.bytes.now (all_changed c.args.side c.args.row c.args.changed c.args.cache.now)) c.requires.shape (c.requires.own told)) (c.requires.standing told)))

pub returns-in-NoMemory-clause-standing : goal.returns-in-NoMemory-clause-standing
returns-in-NoMemory-clause-standing g c =
    λ none told. subst (λ (r : Rows). AreRowsStanding c.write_through.new.members (present (g.B.Bank.given c.args.bank.now) (g.B.Bank.tape c.write_through.new.bank)) c.args.side r) (sym c.in-NoMemory.ensures.kept.0)
    (later-standing (g.B.Bank.given c.args.bank.now) c.args.members.now c.write_through.new.members (present (g.B.Bank.given c.args.bank.now) (g.B.Bank.tape c.args.bank.now)) (present (g.B.Bank.given c.args.bank.now) (g.B.Bank.tape c.write_through.new.bank)) c.args.side c.args.cache.now (row_of c.args.side c.args.row c.args.bytes.now c.args.changed) c.write_through.ensures.moved refl c.in-NoMemory.ensures.kept.1 (c.write_through.ensures.out none told c.args.side).others (c.requires.standing told))

pub returns-in-Evicted-clause-moved : goal.returns-in-Evicted-clause-moved
returns-in-Evicted-clause-moved g c =
    c.write_out_row.ensures.moved

pub returns-in-Evicted-clause-failed : goal.returns-in-Evicted-clause-failed
returns-in-Evicted-clause-failed g c =
    c.write_out_row.ensures.failed

pub returns-in-Evicted-clause-refused : goal.returns-in-Evicted-clause-refused
returns-in-Evicted-clause-refused g c =
    c.write_out_row.ensures.refused

pub returns-in-Evicted-clause-grows : goal.returns-in-Evicted-clause-grows
returns-in-Evicted-clause-grows g c =
    c.write_out_row.ensures.grows

pub returns-in-Evicted-clause-clean : goal.returns-in-Evicted-clause-clean
returns-in-Evicted-clause-clean g c =
    c.write_out_row.ensures.clean

pub returns-in-Evicted-clause-rise : goal.returns-in-Evicted-clause-rise
returns-in-Evicted-clause-rise g c =
    c.write_out_row.ensures.rise

pub returns-in-Evicted-clause-given : goal.returns-in-Evicted-clause-given
returns-in-Evicted-clause-given g c =
    c.write_out_row.ensures.given

pub returns-in-Evicted-clause-counts : goal.returns-in-Evicted-clause-counts
returns-in-Evicted-clause-counts g c =
    c.write_out_row.ensures.counts

pub returns-in-Evicted-clause-cache : goal.returns-in-Evicted-clause-cache
returns-in-Evicted-clause-cache g c =
    subst (λ (r : Rows). IsCache r) (sym c.in-Evicted.ensures.kept.0) (IsCache-kept (row_of c.args.side c.args.row c.args.bytes.now c.args.changed) c.args.cache.now c.requires.cache)

pub returns-in-Evicted-clause-rows : goal.returns-in-Evicted-clause-rows
returns-in-Evicted-clause-rows g c =
    subst (λ (r : Rows). AreRowsOfSides (one_side c.args.side c.args.shape.now) c.args.members.now.newest.size r) (sym c.in-Evicted.ensures.kept.0) ((sides-stay (one_side c.args.side c.args.shape.now) c.args.members.now.newest.size c.args.cache.now c.requires.cache c.requires.rows).1 (row_of c.args.side c.args.row c.args.bytes.now c.args.changed) (own-row c.args.side c.args.shape.now c.args.members.now.newest.size c.args.row c.args.bytes.now c.args.changed c.requires.row c.requires.size))

pub returns-in-Evicted-clause-kept : goal.returns-in-Evicted-clause-kept
returns-in-Evicted-clause-kept g c =
    λ none told. subst (λ (r : Rows). IsRowKept (one_side c.args.side c.args.shape.now) (row_of c.args.side c.args.row c.args.bytes.now c.args.changed) c.args.members.now c.write_out_row.new.members (present (g.B.Bank.given c.args.bank.now) (g.B.Bank.tape c.args.bank.now)) (present (g.B.Bank.given c.args.bank.now) (g.B.Bank.tape c.write_out_row.new.bank)) c.args.cache.now r) (sym c.in-Evicted.ensures.kept.0)
    (evicted-written (g.B.Bank.given c.args.bank.now) (one_side c.args.side c.args.shape.now) c.args.members.now c.write_out_row.new.members (present (g.B.Bank.given c.args.bank.now) (g.B.Bank.tape c.args.bank.now)) (present (g.B.Bank.given c.args.bank.now) (g.B.Bank.tape c.write_out_row.new.bank)) c.args.cache.now (row_of c.args.side c.args.row c.args.bytes.now c.args.changed) c.in-Evicted.gone c.requires.placed c.write_out_row.ensures.moved c.requires.cache c.requires.rows c.in-Evicted.ensures.kept.1 c.requires.shape
    (subst (λ (t : Shape). IsRowWrittenOut t c.in-Evicted.gone c.write_out_row.new.members (present (g.B.Bank.given c.args.bank.now) (g.B.Bank.tape c.args.bank.now)) (present (g.B.Bank.given c.args.bank.now) (g.B.Bank.tape c.write_out_row.new.bank))) c.requires.shape (c.write_out_row.ensures.out none told)))

pub returns-in-Evicted-clause-safe : goal.returns-in-Evicted-clause-safe
returns-in-Evicted-clause-safe g c =
    let held : IsHeld c.args.cache.now c.in-Evicted.gone = (leaving-held c.args.cache.now (row_of c.args.side c.args.row c.args.bytes.now c.args.changed) c.in-Evicted.gone c.requires.cache c.in-Evicted.ensures.kept.1).0 in
    λ told world ledger room gone unclean dirty region stored list list' right stands written allowed allowed' zeros zeros' safe.
    c.write_out_row.ensures.safe told world ledger room gone unclean dirty (region c.in-Evicted.gone.row) list
    (λ bytes are. subst (λ (t : Shape). AreDataOf t list c.in-Evicted.gone.row (sector_of bytes)) (sym c.requires.shape)
    (can-be (g.B.Bank.given c.args.bank.now) (one_side c.args.side c.args.shape.now) c.args.members.now c.in-Evicted.gone bytes c.requires.placed (c.requires.rows c.in-Evicted.gone held) c.requires.shape are stored list
    (held-has (one_side c.args.side c.args.shape.now) c.args.cache.now c.in-Evicted.gone stored list c.requires.cache held right) (present (g.B.Bank.given c.args.bank.now) (g.B.Bank.tape c.args.bank.now)) stands).own)
    allowed zeros safe

pub write_through-requires-clause-others : goal.write_through-requires-clause-others
write_through-requires-clause-others g c =
    λ told. subst (λ (o : Option Cached). OthersStand (present (g.B.Bank.given c.args.bank.now) (g.B.Bank.tape c.args.bank.now)) (reading_of c.args.members.now) c.args.shape.now c.args.row c.args.bytes.now (option_map_or (λ old. bit_or old.changed c.args.changed) o c.args.changed)) c.in-NoMemory.ensures.kept.1 (c.requires.own told)

pub returns-in-NoMemory-clause-moved : goal.returns-in-NoMemory-clause-moved
returns-in-NoMemory-clause-moved g c =
    c.write_through.ensures.moved

pub returns-in-NoMemory-clause-failed : goal.returns-in-NoMemory-clause-failed
returns-in-NoMemory-clause-failed g c =
    c.write_through.ensures.failed

pub returns-in-NoMemory-clause-refused : goal.returns-in-NoMemory-clause-refused
returns-in-NoMemory-clause-refused g c =
    c.write_through.ensures.refused

pub returns-in-NoMemory-clause-grows : goal.returns-in-NoMemory-clause-grows
returns-in-NoMemory-clause-grows g c =
    c.write_through.ensures.grows

pub returns-in-NoMemory-clause-clean : goal.returns-in-NoMemory-clause-clean
returns-in-NoMemory-clause-clean g c =
    c.write_through.ensures.clean

pub returns-in-NoMemory-clause-rise : goal.returns-in-NoMemory-clause-rise
returns-in-NoMemory-clause-rise g c =
    c.write_through.ensures.rise

pub returns-in-NoMemory-clause-given : goal.returns-in-NoMemory-clause-given
returns-in-NoMemory-clause-given g c =
    c.write_through.ensures.given

pub returns-in-NoMemory-clause-counts : goal.returns-in-NoMemory-clause-counts
returns-in-NoMemory-clause-counts g c =
    c.write_through.ensures.counts

pub returns-in-NoMemory-clause-cache : goal.returns-in-NoMemory-clause-cache
returns-in-NoMemory-clause-cache g c =
    subst (λ (r : Rows). IsCache r) (sym c.in-NoMemory.ensures.kept.0) c.requires.cache

pub returns-in-NoMemory-clause-rows : goal.returns-in-NoMemory-clause-rows
returns-in-NoMemory-clause-rows g c =
    subst (λ (r : Rows). AreRowsOfSides (one_side c.args.side c.args.shape.now) c.args.members.now.newest.size r) (sym c.in-NoMemory.ensures.kept.0) c.requires.rows

pub returns-in-NoMemory-clause-kept : goal.returns-in-NoMemory-clause-kept
returns-in-NoMemory-clause-kept g c =
    λ none told. subst (λ (r : Rows). IsRowKept (one_side c.args.side c.args.shape.now) (row_of c.args.side c.args.row c.args.bytes.now c.args.changed) c.args.members.now c.write_through.new.members (present (g.B.Bank.given c.args.bank.now) (g.B.Bank.tape c.args.bank.now)) (present (g.B.Bank.given c.args.bank.now) (g.B.Bank.tape c.write_through.new.bank)) c.args.cache.now r) (sym c.in-NoMemory.ensures.kept.0)
    (written-through (g.B.Bank.given c.args.bank.now) (one_side c.args.side c.args.shape.now) c.args.members.now c.write_through.new.members (present (g.B.Bank.given c.args.bank.now) (g.B.Bank.tape c.args.bank.now)) (present (g.B.Bank.given c.args.bank.now) (g.B.Bank.tape c.write_through.new.bank)) c.args.cache.now (row_of c.args.side c.args.row c.args.bytes.now c.args.changed) c.requires.placed c.write_through.ensures.moved c.in-NoMemory.ensures.kept.1 (own-row c.args.side c.args.shape.now c.args.members.now.newest.size c.args.row c.args.bytes.now c.args.changed c.requires.row c.requires.size) c.requires.shape
    (subst (λ (t : Shape). IsRowWrittenOut t (row_of c.args.side c.args.row c.args.bytes.now c.args.changed) c.write_through.new.members (present (g.B.Bank.given c.args.bank.now) (g.B.Bank.tape c.args.bank.now)) (present (g.B.Bank.given c.args.bank.now) (g.B.Bank.tape c.write_through.new.bank))) c.requires.shape (c.write_through.ensures.out none told c.args.side)))

pub returns-in-NoMemory-clause-safe : goal.returns-in-NoMemory-clause-safe
returns-in-NoMemory-clause-safe g c =
    λ told world ledger room gone unclean dirty region stored list list' right stands written allowed allowed' zeros zeros' safe.
    c.write_through.ensures.safe told world ledger room gone unclean dirty (region c.args.row) list'
    (subst (λ (t : Shape). AreDataOf t list' c.args.row (sector_of c.args.bytes.now)) (sym c.requires.shape)
    (can-be (g.B.Bank.given c.args.bank.now) (one_side c.args.side c.args.shape.now) c.args.members.now (row_of c.args.side c.args.row c.args.bytes.now c.args.changed) c.args.bytes.now c.requires.placed (own-row c.args.side c.args.shape.now c.args.members.now.newest.size c.args.row c.args.bytes.now c.args.changed c.requires.row c.requires.size) c.requires.shape (record { whole = c.requires.whole; sectors = refl }) stored list' (own-has (one_side c.args.side c.args.shape.now) c.args.cache.now (row_of c.args.side c.args.row c.args.bytes.now c.args.changed) stored list list' c.in-NoMemory.ensures.kept.1 right written) (present (g.B.Bank.given c.args.bank.now) (g.B.Bank.tape c.args.bank.now)) stands).own)
    allowed' zeros' safe
