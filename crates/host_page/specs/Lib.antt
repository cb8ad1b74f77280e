pub mod Page
pub mod Clauses
pub mod PageLaws
pub mod DecimalLaws
pub mod StandsLaws
pub mod DecimalTruth
