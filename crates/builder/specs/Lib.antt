pub mod Build
pub mod Lacking
pub mod Results
pub mod Finish
pub mod Stages
