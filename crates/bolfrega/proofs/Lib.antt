pub mod HostJudging
pub mod HostTruth
