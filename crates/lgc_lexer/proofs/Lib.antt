pub mod Scanning
pub mod PieceLaws
pub mod CutLaws
pub mod SpanLaws
