pub mod LinkSteps
pub mod Linked
pub mod LinkCalls
pub mod ShownParts
pub mod StepLaws
pub mod PortLaws
pub mod StepsOfReplies
