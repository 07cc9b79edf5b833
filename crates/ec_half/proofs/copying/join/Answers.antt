use Rattle.std.proofs.Common.{arith, ap}
use Rattle.ec_half.specs.Contents.{stays-rested, synced-rested}
use Rattle.ec_half.proofs.Copies.{alone-of, stays-alone}
use Rattle.ec_half.proofs.copying.join.Goals as goal

pub returns-in-OfOther-clause-source_stays : goal.returns-in-OfOther-clause-source_stays
returns-in-OfOther-clause-source_stays g c how told =
    stays-alone c.without_other.result _ _ _ _ (c.raise.ensures.stays told c.in-Done.is) (c.copy.ensures.source_rests told) c.without_other.ensures.both (λ alone. c.without_other.ensures.stays alone told) how

pub returns-in-OfOther-clause-source_synced : goal.returns-in-OfOther-clause-source_synced
returns-in-OfOther-clause-source_synced g c how told = c.without_other.ensures.synced (alone-of c.without_other.result c.without_other.ensures.both how) told

pub returns-in_default-sync-clause-source_stays : goal.returns-in_default-sync-clause-source_stays
returns-in_default-sync-clause-source_stays g c how told =
    stays-alone c.without_other-in_default-sync.result _ _ _ _ (c.raise.ensures.stays told c.in-Done.is) (c.copy.ensures.source_rests told) c.without_other-in_default-sync.ensures.both (λ alone. c.without_other-in_default-sync.ensures.stays alone told) how

pub returns-in_default-sync-clause-source_synced : goal.returns-in_default-sync-clause-source_synced
returns-in_default-sync-clause-source_synced g c how told = c.without_other-in_default-sync.ensures.synced (alone-of c.without_other-in_default-sync.result c.without_other-in_default-sync.ensures.both how) told

pub returns-in-Done-raise-clause-source_stays : goal.returns-in-Done-raise-clause-source_stays
returns-in-Done-raise-clause-source_stays g c how told = stays-rested _ _ _ (c.raise.ensures.stays told c.in-Done.is) (c.copy.ensures.source_rests told)

pub returns-in-Done-raise-clause-source_synced : goal.returns-in-Done-raise-clause-source_synced
returns-in-Done-raise-clause-source_synced g c how told = synced-rested _ _ (c.raise.ensures.all_synced told c.in-Done.is) (c.copy.ensures.source_rests told)

pub returns-in_default-raise-clause-source_stays : goal.returns-in_default-raise-clause-source_stays
returns-in_default-raise-clause-source_stays g c how told =
    stays-alone c.without_other-in_default-raise.result _ _ _ _ (c.raise.ensures.stays told c.in-Done.is) (c.copy.ensures.source_rests told) c.without_other-in_default-raise.ensures.both (λ alone. c.without_other-in_default-raise.ensures.stays alone told) how

pub returns-in_default-raise-clause-source_synced : goal.returns-in_default-raise-clause-source_synced
returns-in_default-raise-clause-source_synced g c how told = c.without_other-in_default-raise.ensures.synced (alone-of c.without_other-in_default-raise.result c.without_other-in_default-raise.ensures.both how) told

pub returns-in-OfOther-clause-source_have : goal.returns-in-OfOther-clause-source_have
returns-in-OfOther-clause-source_have g c how told rises have =
    c.without_other.ensures.have (alone-of c.without_other.result c.without_other.ensures.both how) told (omega (arith, c.raise.ensures.raised c.in-Done.is, ap (λ x. x.number) c.copy.ensures.source_generation))
    (c.copy.ensures.source_have told (c.raise.ensures.have told c.in-Done.is rises have))

pub returns-in_default-sync-clause-source_have : goal.returns-in_default-sync-clause-source_have
returns-in_default-sync-clause-source_have g c how told rises have =
    c.without_other-in_default-sync.ensures.have (alone-of c.without_other-in_default-sync.result c.without_other-in_default-sync.ensures.both how) told (omega (arith, c.raise.ensures.raised c.in-Done.is, ap (λ x. x.number) c.copy.ensures.source_generation))
    (c.copy.ensures.source_have told (c.raise.ensures.have told c.in-Done.is rises have))

pub returns-in_default-raise-clause-source_have : goal.returns-in_default-raise-clause-source_have
returns-in_default-raise-clause-source_have g c how told rises have =
    c.without_other-in_default-raise.ensures.have (alone-of c.without_other-in_default-raise.result c.without_other-in_default-raise.ensures.both how) told (omega (arith, c.raise.ensures.raised c.in-Done.is, ap (λ x. x.number) c.copy.ensures.source_generation))
    (c.copy.ensures.source_have told (c.raise.ensures.have told c.in-Done.is rises have))

pub returns-in-Done-raise-clause-other_have : goal.returns-in-Done-raise-clause-other_have
returns-in-Done-raise-clause-other_have g c both told have =
    c.raise-2.ensures.have told c.in-Done-raise.is (omega (arith, c.requires, ap (λ x. x.number) c.sync.ensures.generation, ap (λ x. x.number) c.copy.ensures.other_generation))
    (c.sync.ensures.have told (c.copy.ensures.other_have told have))
