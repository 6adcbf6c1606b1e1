-- Why a made text is a trace.
mod Newline
mod PlainData
mod CallRules
mod PhaseRules
mod KeptCalls
mod MadeArrays
mod MadeCalls
pub mod MadeTexts
