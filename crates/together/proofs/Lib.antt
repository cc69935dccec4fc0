pub mod CallLaws
pub mod StepsHold
pub mod RunsProof
pub mod ExtraProof
pub mod Rows
pub mod Fits
