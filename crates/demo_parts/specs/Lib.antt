pub mod DrawnGraphs
pub mod ShownTexts
pub mod Sinks
pub mod WordStreams
