use Rattle.sb_safe_updates.proofs.naming.mark_dirty.Goals as goal

pub returns-then-is_clean-clause-safe : goal.returns-then-is_clean-clause-safe
returns-then-is_clean-clause-safe g c = λ tell world told room gone unclean now.
    c.mark_all.ensures.safe tell world told room (record { gone = gone; unclean = λ dirty. unclean; settled = λ is does premise. absurd (cc) }) now

pub returns-clause-safe : goal.returns-clause-safe
returns-clause-safe g c = λ tell world told room gone unclean now. c.record_missing.ensures.safe tell world told room gone (λ dirty. unclean) now

pub mark_all-requires : goal.mark_all-requires
mark_all-requires g c = record { stands = c.requires.stands }

pub record_missing-requires : goal.record_missing-requires
record_missing-requires g c = record { stands = c.requires.stands }

pub returns-then-is_clean-clause-keeps : goal.returns-then-is_clean-clause-keeps
returns-then-is_clean-clause-keeps g c = c.mark_all.ensures.keeps

pub returns-clause-keeps : goal.returns-clause-keeps
returns-clause-keeps g c = c.record_missing.ensures.keeps
