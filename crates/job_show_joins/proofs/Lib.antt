pub mod MarkedPairs
pub mod PairSteps
pub mod PairWholeness
pub mod PairFraming
pub mod PairEnding
pub mod PairTexts
pub mod PairReasons
