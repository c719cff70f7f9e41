pub mod prompt_laws
pub mod replay_laws
pub mod described_run_laws
pub mod checker_laws
pub mod refusal_laws
pub mod given_run_lemmas
pub mod progress_laws
pub mod one_end_lemmas
