pub mod InMemoryLaws
