pub mod RefusalOrder
pub mod SoundPlan
pub mod PlanParts
pub mod StartNone
pub mod RefusedZeros
pub mod SevenUnused
